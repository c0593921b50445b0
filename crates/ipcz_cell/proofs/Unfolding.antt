-- A closed table in which each number has its slot: its words but the last are those of the table that was folded.
use Rattle.std.specs.Prelude.{◌≡◌, ◌<◌, ◌+◌, ◌-◌, ◌*◌, ℕ, Bool, true, false, MatchBool, List, length, map, slice_index, refl, Option}
use Rattle.std.proofs.Common.{arith, ap, ◌∙◌, sym, subst}
use mathlib.Core.Option.{some}
use mathlib.Core.Logic.{dite}
use native.Mathlib.Decide.{dec_lt}
use lib.ListN.{get_elem?}
use Rattle.atomic_table.specs.Table.{Final, Seen}
use Rattle.ipcz_base.specs.declared.message.Message.{Message}
use Rattle.ipcz_slots.specs.declared.own.Own.{Own}
use Rattle.ipcz_slots.specs.Slots.{of_none, let_go_word}
use Rattle.ipcz_slots.proofs.Folding.{view_at, shows_slot}
use Rattle.ipcz_rule.specs.declared.view.View.{View}
use Rattle.ipcz_rule.specs.Batches.{Batch, Batched}
use Rattle.ipcz_rule.specs.Lasting.{LastingRules, virtual, sizes}
use Rattle.ipcz_base.specs.Indexed.{place_at}
use Rattle.ipcz_word.specs.Layout.{word_of_bits}
use Rattle.ipcz_node.specs.Node.{Node}
use Rattle.ipcz_world.specs.declared.mail.Mail.{Mail}
use Rattle.ipcz_world.specs.declared.mail.Mail.TheVariants as mails
use Rattle.ipcz_world.specs.Coding.{IsTable}
use Rattle.ipcz_world.specs.Lawful.{IsWithinLimits}
use Rattle.ipcz_world.specs.Lawfulness.{IsLawful}
use Rattle.ipcz_world.specs.Parts.{world_of_parts}
use Rattle.ipcz_rule.specs.End.{AreAll, IsShown, states_of}
use Rattle.ipcz_cell.specs.Ending.{Reads}
use Rattle.ipcz_cell.proofs.ReadBack.{messages_of, is_word_table, comes_back}

-- the table that was folded, at its end: its words are these, up to the last mailbox's
pub record IsUnfolded (count size id : ℕ) (v : View) (ws : List ℕ) (xs : List Batch) : Type 0 where
  pub words : List ℕ
  pub last : Final (Seen (Batched count size true) id v) words xs
  pub same : (i : ℕ) → i < size + (1 + count + count * count) → slice_index words i ≡ slice_index ws i

pub unfolded : (count size id : ℕ) (o : Own View) (ws : List ℕ) (xs : List Batch) → Final (Seen (LastingRules count size size false) id o) ws xs → IsUnfolded count size id o.view ws xs
unfolded count size id o ws xs last =
    let s = last.0 in
    let l = last.1.0 in
    let t = l.0 in
    let f = l.2 in
    let x = virtual count size false in
    let z = sizes count size size false in
    let whole = f.whole refl in
    let link : (i : ℕ) → i < size → slice_index t.words i ≡ slice_index ws i = λ i low.
    sym (shows_slot x z of_none t l.1 i (slice_index s.words i) (slice_index s.words (let_go_word z i)) i (f.status i) (whole.shows i low) (f.slots i low)).2 ∙ ap (λ (k : List ℕ). slice_index k i) last.2 in
    record {
      words = t.words;
      last = (t, (l.1, view_at x z s t l.1 f id o last.1.1), refl, ap length (sym f.homes) ∙ last.3, (λ k y h. last.4 k y (subst (λ hs. get_elem? hs k ≡ some (some y)) (sym f.homes) h)));
      same = λ i low. dite (dec_lt i size) (λ l1. link i l1)
          (λ far. let j : ℕ = i - size in
          let at : size + j ≡ i = omega (arith, far) in
          ap (slice_index t.words) (sym at) ∙ (sym (f.rest j (omega (arith, far, low))) ∙ (ap (slice_index s.words) at ∙ ap (λ (k : List ℕ). slice_index k i) last.2)));
    }

-- what is read of the words is read of those
pub reads_same : (n first : ℕ) (words words' : List ℕ) (xs : List Batch) (hands : List (Option Message)) (mail : ℕ → Mail) → ((k : ℕ) → k < n * n → slice_index words (first + k) ≡ slice_index words' (first + k)) →
    ((from to : ℕ) → from < n → to < n → from * n + to < n * n) → Reads n first words xs hands mail → Reads n first words' xs hands mail
reads_same n first words words' xs hands mail same below r = record {
  full = λ k l e. r.full k l (same k l ∙ e);
  hand = λ sender to l m e. r.hand sender to l m (same (sender * n + to) (below sender to l m) ∙ e);
  once = λ sender other to l k m e g. r.once sender other to l k m (same (sender * n + to) (below sender to l m) ∙ e) (same (other * n + to) (below other to k m) ∙ g);
  empty = λ k l a b. r.empty k l (λ e. a (sym (same k l) ∙ e)) (λ e. b (sym (same k l) ∙ e));
}

-- the rule of a table in which each number has its slot, for as many nodes and words
pub whole_sized : (n n' m m' k : ℕ) (b : Bool) (id : ℕ) (o : Own View) (ws : List ℕ) (xs : List Batch) → n ≡ n' → m ≡ m' → k ≡ m' → b ≡ false →
    Final (Seen (LastingRules n m k b) id o) ws xs → Final (Seen (LastingRules n' m' m' false) id o) ws xs
whole_sized n n' m m' k b id o ws xs e f g h last =
    subst (λ (c : Bool). Final (Seen (LastingRules n' m' m' c) id o) ws xs) h (subst (λ (j : ℕ). Final (Seen (LastingRules n' m' j b) id o) ws xs) g
    (subst (λ (j : ℕ). Final (Seen (LastingRules n' j k b) id o) ws xs) f (subst (λ (j : ℕ). Final (Seen (LastingRules j m k b) id o) ws xs) e last)))

below_square : (a b c : ℕ) → a < c → b < c → a * c + b < c * c
below_square a b c la lb = grind (arith, la, lb)

module _ (count size id : ℕ) (o : Own View) (ws : List ℕ) (xs : List Batch) (last : Final (Seen (LastingRules count size size false) id o) ws xs) (all : AreAll count o.view.parts)
    (bits : List ℕ) (many : length bits ≡ size) (read : (i : ℕ) → i < size → slice_index bits i ≡ slice_index ws i) (claimed : ℕ) (claims : claimed ≡ slice_index ws size) where
  u : IsUnfolded count size id o.view ws xs
  u = unfolded count size id o ws xs last

  read_first : (i : ℕ) → i < size → slice_index bits i ≡ slice_index u.words i
  read_first i l = read i l ∙ sym (u.same i (omega (arith, l)))

  claims_first : claimed ≡ slice_index u.words size
  claims_first = claims ∙ sym (u.same size (omega arith))

  -- what is read is a table of words, and with the states of the nodes the world that was shown
  pub whole_table : IsWithinLimits count size → IsTable bits claimed
  whole_table limits = is_word_table count size id o.view u.words xs u.last all bits many read_first claimed claims_first limits

  pub whole_comes_back : (states : List Node) → states ≡ states_of o.view.parts → (hands : List (Option Message)) → hands ≡ messages_of o.view.parts →
      (boxes : List Mail) → length boxes ≡ count * count →
      ((mail : ℕ → Mail) → Reads count (size + 1 + count) ws xs hands mail → (k : ℕ) → k < count * count → place_at mails.Empty boxes k ≡ mail k) →
      IsLawful (world_of_parts states boxes (map word_of_bits bits) claimed) × IsShown count size o.view.parts (world_of_parts states boxes (map word_of_bits bits) claimed)
  whole_comes_back states states_is hands hands_is boxes boxes_many boxes_read =
      comes_back count size id o.view u.words xs u.last all states states_is hands hands_is bits many read_first claimed claims_first boxes boxes_many
      (λ mail r. boxes_read mail (reads_same count (size + 1 + count) u.words ws xs hands mail (λ k l. u.same (size + 1 + count + k) (omega (arith, l))) (λ from to lf lt. below_square from to count lf lt) r))

-- where slots aren't used again a word is shown as it is read
pub shown_word : (b : Bool) (P Q : Type 0) → b ≡ false → Q → MatchBool b P Q
shown_word true P Q e q = absurd (cc)
shown_word false P Q e q = q
