-- What is read of a closed table, with the parts of all nodes, is the world that was shown.
use Rattle.std.specs.Prelude.{◌≡◌, ◌<◌, ◌+◌, ◌*◌, ℕ, zero, suc, Bool, true, false, ◌&&◌, nat_eq, nat_lt, List, [], ◌∷◌, map, length, slice_index, Option, Some, refl}
use Rattle.std.proofs.Common.{arith, ap, ◌∙◌, sym, subst}
use Rattle.std.proofs.lemmas.Bool.Decides.{nat_tests}
use mathlib.Core.Option.{some, some-injective, some-ne-none}
use lib.ListN.{get_elem?}
use Rattle.atomic_table.specs.Table.{Final, Seen}
use Rattle.atomic_table.proofs.Lists.{at_map}
use Rattle.ipcz_base.specs.Indexed.{place_at}
use Rattle.ipcz_base.specs.declared.message.Message.{Message}
use Rattle.ipcz_word.specs.Layout.{word_of_bits}
use Rattle.ipcz_node.specs.Node.{Node}
use Rattle.ipcz_world.specs.declared.mail.Mail.{Mail}
use Rattle.ipcz_world.specs.declared.mail.Mail.TheVariants as mails
use Rattle.ipcz_world.specs.World.{World, mail_at}
use Rattle.ipcz_world.specs.Coding.{IsTable}
use Rattle.ipcz_world.specs.Lawful.{IsWithinLimits}
use Rattle.ipcz_world.specs.Lawfulness.{IsLawful}
use Rattle.ipcz_world.specs.Parts.{world_of_parts}
use Rattle.ipcz_rule.specs.declared.view.View.{View}
use Rattle.ipcz_rule.specs.declared.view.Part.{Part}
use Rattle.ipcz_rule.specs.Rule.{InParts, puts_of, gets_of, drops_of}
use Rattle.ipcz_rule.specs.Batches.{Batch, BatchSt, Batched}
use Rattle.ipcz_rule.specs.End.{AreAll, IsShown, rested, view_of, states_of}
use Rattle.ipcz_rule.proofs.Ending.{some_inside, part_of, is_shown, world_is, is_table, full_box, hand_box, empty_box, homes_many}
use Rattle.ipcz_cell.specs.CellStates.{CellState}
use Rattle.ipcz_cell.specs.Ending.{Reads, is_in_order, parts_of}

-- the messages in the hands of these nodes
abbrev pub messages_of : List Part → List (Option Message)
messages_of ps = map (λ p. p.message) ps

same_sender : (a b : ℕ) → ◌≡◌ {A = Option ℕ} (Some a) (Some b) → a ≡ b
same_sender a b e = grind (arith, e)

module _ (count size id : ℕ) (v : View) (ws : List ℕ) (xs : List Batch) (last : Final (Seen (Batched count size true) id v) ws xs) (all : AreAll count v.parts) where
  abbrev s : BatchSt
  s = last.0

  abbrev r : Batched count size true s
  r = last.1.0

  back : (i n : ℕ) → slice_index ws i ≡ n → slice_index s.words i ≡ n
  back i n e = ap (λ (l : List ℕ). slice_index l i) last.2 ∙ e

  -- the mailboxes are read
  pub reads : Reads count (size + 1 + count) ws xs (messages_of v.parts) (mail_at r.rules.world)
  reads = record {
    full = λ k l e. let there = some_inside xs k (omega (arith, l, sym last.3, homes_many count size s r)) in
        let t = full_box count size s r id v last.1.1 all k l (back _ 1 e) xs there.0 (λ y h. last.4 k y h) there.1 in (t.0, there.1 ∙ ap some t.1, t.2);
    hand = λ sender to ls lt e. let p = part_of count size s r id v last.1.1 all to lt in
        let t = hand_box count size s r id v last.1.1 all sender to ls lt (back _ 2 e) p.0 p.1 in
        (t.0, at_map (λ (q : Part). q.message) v.parts to p.0 p.1 ∙ ap some t.1, t.3);
    once = λ sender other to ls lo lt e f. let p = part_of count size s r id v last.1.1 all to lt in
        let t = hand_box count size s r id v last.1.1 all sender to ls lt (back _ 2 e) p.0 p.1 in
        let u = hand_box count size s r id v last.1.1 all other to lo lt (back _ 2 f) p.0 p.1 in same_sender sender other (sym t.2 ∙ u.2);
    empty = λ k l a b. empty_box count size s r id v last.1.1 all k (slice_index ws (size + 1 + count + k)) l (back _ _ refl) a b;
  }

  module _ (bits : List ℕ) (many : length bits ≡ size) (read : (i : ℕ) → i < size → slice_index bits i ≡ slice_index ws i) (claimed : ℕ) (claims : claimed ≡ slice_index ws size) where
    read_first : (i : ℕ) → i < size → slice_index bits i ≡ slice_index s.words i
    read_first i l = read i l ∙ sym (ap (λ (l : List ℕ). slice_index l i) last.2)

    claims_first : claimed ≡ slice_index s.words size
    claims_first = claims ∙ sym (ap (λ (l : List ℕ). slice_index l size) last.2)

    pub is_word_table : IsWithinLimits count size → IsTable bits claimed
    is_word_table limits = is_table count size s r id v last.1.1 all bits many read_first limits claimed claims_first

    module _ (boxes : List Mail) (boxes_many : length boxes ≡ count * count) (same : (k : ℕ) → k < count * count → place_at mails.Empty boxes k ≡ mail_at r.rules.world k) where
      abbrev after : World
      after = world_of_parts (states_of v.parts) boxes (map word_of_bits bits) claimed

      is_after : r.rules.world ≡ after
      is_after = world_is count size s r id v last.1.1 all bits many read_first boxes claimed claims_first boxes_many same

      pub is_lawful : IsLawful after
      is_lawful = subst IsLawful is_after (record { books = r.rules.books; routes = r.rules.routes; lawful = r.rules.lawful })

      pub after_shown : IsShown count size v.parts after
      after_shown = subst (IsShown count size v.parts) is_after (is_shown count size s r id v last.1.1 all)

-- cells in order are as many as there are nodes
pub order_many : (count i : ℕ) (cells : List CellState) → is_in_order count i cells ≡ true → i + length cells ≡ count
order_many count i [] e = let same : i ≡ count = grind (arith, nat_tests, e) in omega (arith, same)
order_many count i (c ∷ cells) e = let h = order_many count (i + 1) cells (last_of (nat_eq c.part.node i) (nat_lt i count) (is_in_order count (i + 1) cells) e) in omega (arith, h)
  where
    last_of : (a b c : Bool) → (a && (b && c)) ≡ true → c ≡ true
    last_of true true c e = e
    last_of true false c e = absurd cc
    last_of false b c e = absurd cc

ordered_from : (count i : ℕ) (cells : List CellState) → is_in_order count i cells ≡ true → (k : ℕ) (p : Part) → get_elem? (map rested (parts_of cells)) k ≡ some p → p.node ≡ i + k
ordered_from count i [] e k p at = absurd (some-ne-none p (sym at))
ordered_from count i (c ∷ cells) e zero p at = let is : c.part.node ≡ i = grind (arith, nat_tests, first_of (nat_eq c.part.node i) _ e) in
    ap (λ (q : Part). q.node) (sym (some-injective (rested c.part) p at)) ∙ (is ∙ omega arith)
  where
    first_of : (a b : Bool) → (a && b) ≡ true → a ≡ true
    first_of true b e = refl
    first_of false b e = absurd cc
ordered_from count i (c ∷ cells) e (suc k) p at =
    let h = ordered_from count (i + 1) cells (last_of (nat_eq c.part.node i) (nat_lt i count) (is_in_order count (i + 1) cells) e) k p at in h ∙ omega arith
  where
    last_of : (a b c : Bool) → (a && (b && c)) ≡ true → c ≡ true
    last_of true true c e = e
    last_of true false c e = absurd cc
    last_of false b c e = absurd cc

parts_many : (cells : List CellState) → length (map rested (parts_of cells)) ≡ length cells
parts_many [] = refl
parts_many (c ∷ cells) = ap suc (parts_many cells)

-- the parts of cells in order are those of all nodes
pub all_parts : (count : ℕ) (cells : List CellState) → is_in_order count 0 cells ≡ true → AreAll count (map rested (parts_of cells))
all_parts count cells e = record {
  many = parts_many cells ∙ (let h = order_many count 0 cells e in omega (arith, h));
  ordered = λ k p at. ordered_from count 0 cells e k p at ∙ omega arith;
}

pub rested_states : (ps : List Part) → states_of (map rested ps) ≡ states_of ps
rested_states [] = refl
rested_states (p ∷ ps) = ap (λ l. p.state ∷ l) (rested_states ps)

rested_twice : (ps : List Part) → map rested (map rested ps) ≡ map rested ps
rested_twice [] = refl
rested_twice (p ∷ ps) = ap (λ l. rested p ∷ l) (rested_twice ps)

rested_at : (ps : List Part) (k : ℕ) (q : Part) → get_elem? (map rested ps) k ≡ some q → (p : Part) × (get_elem? ps k ≡ some p) × (rested p ≡ q)
rested_at [] k q e = absurd (some-ne-none q (sym e))
rested_at (p ∷ ps) zero q e = (p, refl, some-injective (rested p) q e)
rested_at (p ∷ ps) (suc k) q e = rested_at ps k q e

goes : {X : Type 0} (of : Part → List X) (ps : List Part) → ((p : Part) → of (rested p) ≡ of p) → (x : X) → InParts (view_of (map rested ps) ∷ []) of x → InParts (view_of ps ∷ []) of x
goes {X = X} of ps same x h = go h.id h.seat
  where
    go : (i : ℕ) → get_elem? (view_of (map rested ps) ∷ []) i ≡ some h.view → InParts (view_of ps ∷ []) of x
    go (suc i) e = absurd (some-ne-none h.view (sym e))
    go zero e = let t = rested_at ps h.place h.part (ap (λ (z : View). get_elem? z.parts h.place) (some-injective (view_of (map rested ps)) h.view e) ∙ h.there) in record {
      id = 0;
      view = view_of ps;
      place = h.place;
      part = t.0;
      index = h.index;
      seat = refl;
      there = t.1;
      entry = ap (λ (l : List X). get_elem? l h.index) (sym (same t.0)) ∙ (ap (λ (z : Part). get_elem? (of z) h.index) t.2 ∙ h.entry);
    }

came : {X : Type 0} (of : Part → List X) (ps : List Part) → ((p : Part) → of (rested p) ≡ of p) → (x : X) → InParts (view_of ps ∷ []) of x → InParts (view_of (map rested ps) ∷ []) of x
came {X = X} of ps same x h = go h.id h.seat
  where
    go : (i : ℕ) → get_elem? (view_of ps ∷ []) i ≡ some h.view → InParts (view_of (map rested ps) ∷ []) of x
    go (suc i) e = absurd (some-ne-none h.view (sym e))
    go zero e = record {
      id = 0;
      view = view_of (map rested ps);
      place = h.place;
      part = rested h.part;
      index = h.index;
      seat = refl;
      there = at_map rested ps h.place h.part (ap (λ (z : View). get_elem? z.parts h.place) (some-injective (view_of ps) h.view e) ∙ h.there);
      entry = ap (λ (l : List X). get_elem? l h.index) (same h.part) ∙ h.entry;
    }

-- what was shown with the parts that have given their slots back was shown with the parts before
pub shown_before : (count size : ℕ) (ps : List Part) (w : World) → IsShown count size (map rested ps) w → IsShown count size ps w
shown_before count size ps w is = let j = is.joined in record {
  nodes = is.nodes ∙ rested_states ps;
  hands = λ k p e. is.hands k (rested p) (at_map rested ps k p e);
  table = is.table;
  rules = is.rules;
  world_is = is.world_is;
  id = is.id;
  view = is.view;
  seat = is.seat;
  parts = is.parts ∙ rested_twice ps;
  joined = record {
    put = λ e n item h. goes puts_of ps (λ p. refl) ((e, n), item) (j.put e n item h);
    put_only = λ e n item h. j.put_only e n item (came puts_of ps (λ p. refl) ((e, n), item) h);
    got = λ e n q h. goes gets_of ps (λ p. refl) ((e, n), q) (j.got e n q h);
    got_only = λ e n q h. j.got_only e n q (came gets_of ps (λ p. refl) ((e, n), q) h);
    gone = λ e n h l. goes drops_of ps (λ p. refl) (e, n) (j.gone e n h l);
    gone_only = λ e n h. j.gone_only e n (came drops_of ps (λ p. refl) (e, n) h);
  };
}

-- all that is read, with the states of the nodes, is the world that was shown
pub comes_back : (count size id : ℕ) (v : View) (ws : List ℕ) (xs : List Batch) → Final (Seen (Batched count size true) id v) ws xs → AreAll count v.parts →
    (states : List Node) → states ≡ states_of v.parts → (hands : List (Option Message)) → hands ≡ messages_of v.parts →
    (bits : List ℕ) → length bits ≡ size → ((i : ℕ) → i < size → slice_index bits i ≡ slice_index ws i) → (claimed : ℕ) → claimed ≡ slice_index ws size →
    (boxes : List Mail) → length boxes ≡ count * count →
    ((mail : ℕ → Mail) → Reads count (size + 1 + count) ws xs hands mail → (k : ℕ) → k < count * count → place_at mails.Empty boxes k ≡ mail k) →
    IsLawful (world_of_parts states boxes (map word_of_bits bits) claimed) × IsShown count size v.parts (world_of_parts states boxes (map word_of_bits bits) claimed)
comes_back count size id v ws xs last all states states_is hands hands_is bits many read claimed claims boxes boxes_many boxes_read =
    let rs = subst (λ (h : List (Option Message)). Reads count (size + 1 + count) ws xs h (mail_at last.1.0.rules.world)) (sym hands_is) (reads count size id v ws xs last all) in
    let same = boxes_read (mail_at last.1.0.rules.world) rs in
    let after : List Node → World = λ ns. world_of_parts ns boxes (map word_of_bits bits) claimed in (
      subst (λ (ns : List Node). IsLawful (after ns)) (sym states_is) (is_lawful count size id v ws xs last all bits many read claimed claims boxes boxes_many same),
      subst (λ (ns : List Node). IsShown count size v.parts (after ns)) (sym states_is) (after_shown count size id v ws xs last all bits many read claimed claims boxes boxes_many same),
    )

pub rested_messages : (ps : List Part) → messages_of (map rested ps) ≡ messages_of ps
rested_messages [] = refl
rested_messages (p ∷ ps) = ap (λ l. p.message ∷ l) (rested_messages ps)
