-- What the rule of a table of batches says of each part and of each word: by what the single table's rule says of the parts that it shows.
use Rattle.std.specs.Prelude.{◌≡◌, ◌<◌, ◌&&◌, ◌+◌, ◌*◌, ℕ, zero, suc, Bool, true, false, cond, not, nat_eq, List, [], ◌∷◌, map, length, slice_index, Option, refl}
use Rattle.std.specs.Int.{bit_at}
use Rattle.std.proofs.Common.{arith, ap, ◌∙◌, sym, subst}
use Rattle.std.proofs.lemmas.Bool.Decides.{nat_tests}
use mathlib.Core.Option.{some, some-injective, some-ne-none}
use mathlib.Core.Option as maybe
use lib.ListN.{get_elem?}
use Rattle.ipcz_base.specs.Indexed.{place_at}
use Rattle.ipcz_base.specs.declared.message.Message.{Message}
use Rattle.ipcz_node.specs.Node.{Node, is_named}
use Rattle.ipcz_node.specs.Hands.{is_unfit, link_asked, side_asked}
use Rattle.ipcz_node.specs.Fronts.{behind}
use Rattle.ipcz_node.proofs.Fronts.{fits_behind}
use Rattle.ipcz_world.specs.Coding.{IsLinkNumber}
use Rattle.ipcz_world.specs.Soundness.{IsSound}
use Rattle.ipcz_rule.specs.declared.view.View.{View}
use Rattle.ipcz_rule.specs.declared.view.Part.{Part}
use Rattle.ipcz_rule.specs.Rule.{Slot, St, InParts, puts_of, gets_of}
use Rattle.ipcz_rule.specs.Steps.{trusted}
use Rattle.ipcz_rule.specs.Batches.{Batch, BatchSt, plain_count, shown_part, seen_at, MailFolds, Folds}
use Rattle.ipcz_rule.specs.BatchLaws.{BatchPartsAreSound, BatchPartsHandsFit, BatchLinksAreWords, BatchOldLinksAreWords, BatchCountsWereReached, FullBatchesAreAnnounced}
use Rattle.ipcz_rule.specs.BatchLaws.{BatchPutsAreOnce, BatchGetsFollowPuts, BatchNodesHaveParts}
use Rattle.ipcz_rule.proofs.Moved.{at_inside}
use Rattle.ipcz_rule.proofs.OldLinks.{old_links_are_words}
use Rattle.ipcz_rule.proofs.RuleLaws.{parts_are_sound, parts_hands_fit, links_are_words, counts_were_reached, full_mailboxes_are_announced, puts_are_once, gets_follow_puts, nodes_have_parts}

-- lists by place

image_at : {X Y : Type 0} (f : X → Y) (l : List X) (k : ℕ) (x : X) → get_elem? l k ≡ some x → get_elem? (map f l) k ≡ some (f x)
image_at f [] k x e = absurd (some-ne-none x (sym e))
image_at f (y ∷ ys) zero x e = ap (λ z. some (f z)) (some-injective y x e)
image_at f (y ∷ ys) (suc k) x e = image_at f ys k x e

-- what stands in a list of images is the image of what stands there
image_of : {X Y : Type 0} (f : X → Y) (l : List X) (k : ℕ) (y : Y) → get_elem? (map f l) k ≡ some y → (x : X) × (get_elem? l k ≡ some x) × (f x ≡ y)
image_of f [] k y e = absurd (some-ne-none y (sym e))
image_of f (x ∷ xs) zero y e = (x, refl, some-injective (f x) y e)
image_of f (x ∷ xs) (suc k) y e = image_of f xs k y e

something_at : {X : Type 0} (l : List X) (k : ℕ) → k < length l → (x : X) × (get_elem? l k ≡ some x)
something_at [] k l = absurd (omega (arith, l))
something_at (x ∷ xs) zero l = (x, refl)
something_at (x ∷ xs) (suc k) l = something_at xs k (omega (arith, l))

-- numbers that were seen in a word
seen_in : (i : ℕ) (es : List (ℕ × ℕ)) (k n : ℕ) → get_elem? es k ≡ some (i, n) → (j : ℕ) × (get_elem? (seen_at i es) j ≡ some n)
seen_in i [] k n h = absurd (some-ne-none (i, n) (sym h))
seen_in i (e ∷ es) zero n h =
    let same : e ≡ (i, n) = some-injective e (i, n) h in
    let word : e.0 ≡ i = ap (λ (z : ℕ × ℕ). z.0) same in
    let test : nat_eq e.0 i ≡ true = grind (arith, nat_tests, word) in
    (0, ap (λ b. get_elem? (cond b (e.1 ∷ seen_at i es) (seen_at i es)) 0) test ∙ ap (λ (z : ℕ × ℕ). some z.1) same)
seen_in i (e ∷ es) (suc k) n h = let t = seen_in i es k n h in by t.0 t.1 (nat_eq e.0 i)
  where
    by : (j : ℕ) → get_elem? (seen_at i es) j ≡ some n → (b : Bool) → (j : ℕ) × (get_elem? (cond b (e.1 ∷ seen_at i es) (seen_at i es)) j ≡ some n)
    by j there true = (suc j, there)
    by j there false = (j, there)

seen_of : (i : ℕ) (es : List (ℕ × ℕ)) (j n : ℕ) → get_elem? (seen_at i es) j ≡ some n → (k : ℕ) × (get_elem? es k ≡ some (i, n))
seen_of i [] j n h = absurd (some-ne-none n (sym h))
seen_of i (e ∷ es) j n h = by (λ k there. seen_of i es k n there) (nat_eq e.0 i) refl j h
  where
    later : (k : ℕ) × (get_elem? es k ≡ some (i, n)) → (k : ℕ) × (get_elem? (e ∷ es) k ≡ some (i, n))
    later t = (suc t.0, t.1)

    by : ((k : ℕ) → get_elem? (seen_at i es) k ≡ some n → (k : ℕ) × (get_elem? es k ≡ some (i, n))) → (b : Bool) → nat_eq e.0 i ≡ b → (j : ℕ) →
        get_elem? (cond b (e.1 ∷ seen_at i es) (seen_at i es)) j ≡ some n → (k : ℕ) × (get_elem? (e ∷ es) k ≡ some (i, n))
    by rest true t zero there =
        let word : e.0 ≡ i = grind (arith, nat_tests, t) in
        (0, ap (λ (m : ℕ). some (m, e.1)) word ∙ ap (λ (m : ℕ). some (i, m)) (some-injective e.1 n there))
    by rest true t (suc j) there = later (rest j there)
    by rest false t j there = later (rest j there)

-- the view of the single table that a view folds, and in it a part
pub record Shown (t : St) (fronts : ℕ → List Batch) (id j : ℕ) (p : Part) : Type 0 where
  pub view : View
  pub seat : get_elem? t.views id ≡ some view
  pub there : get_elem? view.parts j ≡ some (shown_part fronts p)

-- the part of a table of batches that a part of the single table shows
pub record Folded (s : BatchSt) (fronts : ℕ → List Batch) (id j : ℕ) (q : Part) : Type 0 where
  pub view : View
  pub part : Part
  pub seat : get_elem? s.views id ≡ some view
  pub there : get_elem? view.parts j ≡ some part
  pub shows : shown_part fronts part ≡ q

module _ {count size : ℕ} {alone : Bool} {s : BatchSt} {t : St} {fronts : ℕ → List Batch} {left : ℕ → ℕ → Batch} (f : Folds count size alone s t fronts left) where
  pub part_shown : (id : ℕ) (v : View) (j : ℕ) (p : Part) → get_elem? s.views id ≡ some v → get_elem? v.parts j ≡ some p → Shown t fronts id j p
  part_shown id v j p seat there =
      let h = f.views id v seat in
      record {
        view = h.0;
        seat = h.1;
        there = ap (λ (l : List Part). get_elem? l j) h.2.parts ∙ image_at (shown_part fronts) v.parts j p there;
      }

  pub part_folded : (id : ℕ) (u : View) (j : ℕ) (q : Part) → get_elem? t.views id ≡ some u → get_elem? u.parts j ≡ some q → Folded s fronts id j q
  part_folded id u j q seat there =
      let inside = at_inside t.views id u seat in
      let g = something_at s.views id (let many = f.many in omega (arith, many, inside)) in
      let h = f.views id g.0 g.1 in
      let same : h.0 ≡ u = some-injective h.0 u (sym h.1 ∙ seat) in
      let part = image_of (shown_part fronts) g.0.parts j q (ap (λ (l : List Part). get_elem? l j) (sym h.2.parts) ∙ (ap (λ (x : View). get_elem? x.parts j) same ∙ there)) in
      record {
        view = g.0;
        part = part.0;
        seat = g.1;
        there = part.1;
        shows = part.2;
      }

  -- an entry stands in a part there as here, if the shown part has the same entries
  pub entry_there : {X : Type 0} (of : Part → List X) → ((p : Part) → of (shown_part fronts p) ≡ of p) → (x : X) → InParts s.views of x → InParts t.views of x
  entry_there of same x h =
      let g = part_shown h.id h.view h.place h.part h.seat h.there in
      record {
        id = h.id;
        view = g.view;
        place = h.place;
        part = shown_part fronts h.part;
        index = h.index;
        seat = g.seat;
        there = g.there;
        entry = ap (λ l. get_elem? l h.index) (same h.part) ∙ h.entry;
      }

  pub entry_here : {X : Type 0} (of : Part → List X) → ((p : Part) → of (shown_part fronts p) ≡ of p) → (x : X) → InParts t.views of x → InParts s.views of x
  entry_here of same x h =
      let g = part_folded h.id h.view h.place h.part h.seat h.there in
      record {
        id = h.id;
        view = g.view;
        place = h.place;
        part = g.part;
        index = h.index;
        seat = g.seat;
        there = g.there;
        entry = ap (λ l. get_elem? l h.index) (sym (same g.part) ∙ ap of g.shows) ∙ h.entry;
      }

-- a node is sound behind messages in front of its outboxes as it is without them
sound_alone : (fs : List Batch) (count size number : ℕ) (n : Node) → IsSound count size number (behind fs n) → IsSound count size number n
sound_alone fs count size number n h = record {
  number_is = h.number_is;
  count_is = h.count_is;
  primary = h.primary;
  spare = h.spare;
  opening = h.opening;
  hand = h.hand;
}

pub parts_sound : BatchPartsAreSound
parts_sound count size alone s b id v j p seat there =
    let g = part_shown b.folds id v j p seat there in
    let h = parts_are_sound count size b.single b.rules id g.view j (shown_part b.fronts p) g.seat g.there in
    (h.0, sound_alone (b.fronts p.node) count size p.node p.state h.1, h.2)

-- and what fits it does
unfit_behind : (fs : List Batch) (n : Node) (from : ℕ) (x : Message) (source : Option ℕ) → is_unfit n from x source ≡ is_unfit (behind fs n) from x source
unfit_behind fs n from x source = ap (λ b. not (b && is_named n (link_asked x) (side_asked x))) (fits_behind fs n from x source)

pub hands_fit : BatchPartsHandsFit
hands_fit count size alone s b id v j p seat there from x hand message unfit =
    let g = part_shown b.folds id v j p seat there in
    parts_hands_fit count size b.single b.rules id g.view j (shown_part b.fronts p) from x g.seat g.there hand message
    (sym (unfit_behind (b.fronts p.node) p.state from x (trusted from x)) ∙ unfit)

pub links_words : BatchLinksAreWords
links_words count size alone s b i inside =
    subst IsLinkNumber (sym (b.folds.words i (omega (arith, inside)))) (links_are_words count size b.single b.rules i inside)

pub old_links_words : BatchOldLinksAreWords
old_links_words count size alone s b id v j p seat there from old x hand message named =
    let g = part_shown b.folds id v j p seat there in
    old_links_are_words count size b.single b.rules id g.view j (shown_part b.fronts p) from old x g.seat g.there hand message named

pub counts_reached : BatchCountsWereReached
counts_reached count size alone s b id v k n at seen =
    let h = b.folds.views id v at in
    let low : size < plain_count count size = omega arith in
    let mine = seen_in size v.seen k n seen in
    let there = seen_of size h.0.seen mine.0 n (ap (λ (l : List ℕ). get_elem? l mine.0) (h.2.seen size low) ∙ mine.1) in
    let reached = counts_were_reached count size b.single b.rules id h.0 there.0 n h.1 there.1 in
    let first = reached.0 in
    let second = reached.1 in
    let same = b.folds.words size low in
    (omega (arith, first, same), omega (arith, second, same))

-- a mailbox that has a batch is full in the single table
full_there : (rest left : Batch) (n : ℕ) (home : maybe.Option (maybe.Option Batch)) (m : ℕ) (one : maybe.Option (maybe.Option Slot)) → MailFolds n home m one rest left → n ≡ 1 → m ≡ 1
full_there rest left zero home m one h e = absurd (omega (arith, e))
full_there rest left (suc zero) home m one h e = h.2
full_there rest left (suc (suc n)) home m one h e = absurd (omega (arith, e))

pub full_announced : FullBatchesAreAnnounced
full_announced count size alone s b from to from_in to_in =
    let f = b.folds in
    let t = b.single in
    let k = from * count + to in (
      λ full.
          let there = full_there (place_at [] (b.fronts from) to) (b.left from to) (slice_index s.words (plain_count count size + k)) (get_elem? s.homes k)
          (slice_index t.words (plain_count count size + k)) (get_elem? t.homes k) (f.mail from to from_in to_in) full in
          ap (λ n. bit_at n from) (f.words (size + 1 + to) (omega (arith, to_in))) ∙ full_mailboxes_are_announced count size t b.rules from to from_in to_in there,
      λ id v j p seat there is some_left. f.announced from to from_in to_in
          (λ none. some_left (f.parts id v j p from seat there from_in ∙ (ap (b.left from) is ∙ none))),
    )

pub puts_once : BatchPutsAreOnce
puts_once count size alone s b e n x y h k = puts_are_once count size b.single b.rules e n x y
    (entry_there b.folds puts_of (λ p. refl) ((e, n), x) h) (entry_there b.folds puts_of (λ p. refl) ((e, n), y) k)

pub gets_after_puts : BatchGetsFollowPuts
gets_after_puts count size alone s b e n q h =
    let t = gets_follow_puts count size b.single b.rules e n q (entry_there b.folds gets_of (λ p. refl) ((e, n), q) h) in
    (entry_here b.folds puts_of (λ p. refl) _ t.0, λ k l. let g = t.1 k l in (g.0, entry_here b.folds gets_of (λ p. refl) ((e, k), g.0) g.1))

pub nodes_somewhere : BatchNodesHaveParts
nodes_somewhere count size alone s b node below =
    let h = nodes_have_parts count size b.single b.rules node below in
    let g = part_folded b.folds h.id h.view h.place h.part h.seat h.there in
    record {
      id = h.id;
      view = g.view;
      place = h.place;
      part = g.part;
      seat = g.seat;
      there = g.there;
      node_is = ap (λ (p : Part). p.node) g.shows ∙ h.node_is;
    }
