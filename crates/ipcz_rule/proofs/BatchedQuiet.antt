-- If each node is quiet by its part, nothing is left of a batch and no mailbox is full, the world that a table of batches shows is quiet; and if each is
-- settled, each open pair is direct.
use Rattle.std.specs.Prelude.{◌≡◌, ◌≢◌, ◌≤◌, ◌<◌, ◌&&◌, ◌+◌, ◌*◌, ℕ, zero, suc, Bool, true, false, nat_eq, List, [], ◌∷◌, ◌++◌, length, slice_index, is_none, refl}
use Rattle.std.proofs.Common.{arith, ap, ◌∙◌, sym, subst, ⊎_elim}
use Rattle.std.proofs.lemmas.Bool.Decides.{nat_tests}
use mathlib.Core.Option.{some}
use mathlib.Core.Option as maybe
use lib.ListN.{get_elem?}
use Rattle.ipcz_base.specs.Indexed.{place_at}
use Rattle.ipcz_base.specs.declared.message.Message.{Message}
use Rattle.ipcz_node.specs.Node.{Node, flagged_router, outbox}
use Rattle.ipcz_node.specs.Acts.{is_quiet, are_empty}
use Rattle.ipcz_node.specs.Fronts.{fronted, behind}
use Rattle.ipcz_node.proofs.Fronts.{place_front}
use Rattle.ipcz_rule.specs.declared.view.View.{View}
use Rattle.ipcz_rule.specs.declared.view.Part.{Part}
use Rattle.ipcz_rule.specs.Rule.{Slot, St}
use Rattle.ipcz_rule.specs.RuleLaws.{EachPart, IsSettled}
use Rattle.ipcz_rule.specs.Batches.{Batch, BatchSt, Batched, plain_count, shown_part, MailFolds}
use Rattle.ipcz_rule.specs.BatchLaws.{HasNoBatch, QuietBatchesShowQuiet, SettledBatchesAreDirect}
use Rattle.ipcz_rule.proofs.QuietParts.{below_or, split, quiet_parts_show_quiet}
use Rattle.ipcz_rule.proofs.SettledParts.{settled_parts_are_direct}
use Rattle.ipcz_rule.proofs.BatchedLaws.{Folded, part_shown, part_folded, nodes_somewhere}
use Rattle.ipcz_rule.proofs.BatchedStart.{inside_square}

-- outboxes are empty if nothing stands at any place of them
all_empty : (bs : List (List Message)) → ((i : ℕ) → place_at [] bs i ≡ []) → are_empty bs ≡ true
unfolding place_at
all_empty [] h = refl
all_empty (b ∷ bs) h = rw (h zero, all_empty bs (λ i. h (suc i))) refl

first_holds : (x y : Bool) → (x && y) ≡ true → x ≡ true
first_holds true y h = refl
first_holds false y h = cc

second_holds : (x y : Bool) → (x && y) ≡ true → y ≡ true
second_holds true y h = h
second_holds false y h = cc

none_long : (b : List Message) → nat_eq (length b) 0 ≡ true → b ≡ []
none_long [] e = refl
none_long (x ∷ xs) e = let long : suc (length xs) ≡ 0 = grind (arith, nat_tests, e) in absurd (omega (arith, long))

empty_at : (bs : List (List Message)) (i : ℕ) → are_empty bs ≡ true → place_at [] bs i ≡ []
unfolding place_at
empty_at [] i h = refl
empty_at (b ∷ bs) zero h = none_long b (first_holds (nat_eq (length b) 0) (are_empty bs) h)
empty_at (b ∷ bs) (suc i) h = empty_at bs i (second_holds (nat_eq (length b) 0) (are_empty bs) h)

-- a quiet node has nothing in its outboxes
boxes_empty : (n : Node) → is_quiet n ≡ true → are_empty n.outboxes ≡ true
unfolding is_quiet
boxes_empty n h = first_holds (are_empty n.outboxes) (nat_eq (length n.pending) 0 && (is_none n.hand && is_none (flagged_router n))) h

-- and is quiet behind outboxes that are as empty
quiet_behind : (fs : List Batch) (n : Node) → is_quiet n ≡ true → are_empty (fronted fs n.outboxes) ≡ true → is_quiet (behind fs n) ≡ true
unfolding is_quiet
quiet_behind fs n quiet none = by (are_empty n.outboxes) (nat_eq (length n.pending) 0 && (is_none n.hand && is_none (flagged_router n))) quiet
  where
    by : (a b : Bool) → (a && b) ≡ true → (are_empty (fronted fs n.outboxes) && b) ≡ true
    by true b h = rw none h
    by false b h = cc

-- a mailbox that isn't full, and of whose batch nothing is left, isn't full in the single table, and nothing is behind it
none_full : (rest left : Batch) (n : ℕ) (home : maybe.Option (maybe.Option Batch)) (m : ℕ) (one : maybe.Option (maybe.Option Slot)) → MailFolds n home m one rest left → n ≢ 1 → left ≡ [] →
    (m ≢ 1) × (rest ≡ [])
none_full rest left zero home m one h full none = let e = h.1 in (λ is. omega (arith, e, is), h.2)
none_full rest left (suc zero) home m one h full none = absurd (full refl)
none_full rest left (suc (suc zero)) home m one h full none = ⊎_elim
    (λ (t : (m ≡ 2) × (left ≡ rest)). let e = t.0 in ((λ is. omega (arith, e, is)), sym t.1 ∙ none))
    (λ t. let e = sym none ∙ t.3 in absurd (cc))
    h
none_full rest left (suc (suc (suc zero))) home m one h full none = let e = h.0 in (λ is. omega (arith, e, is), h.1)
none_full rest left (suc (suc (suc (suc n)))) home m one h full none = absurd h

module _ (count size : ℕ) (alone : Bool) (s : BatchSt) (b : Batched count size alone s) (none : EachPart s.views (HasNoBatch count))
    (full : (k : ℕ) → k < count * count → slice_index s.words (size + 1 + count + k) ≢ 1) where
  abbrev t : St
  t = b.single

  -- nothing is left of any batch
  nothing_left : (from to : ℕ) → from < count → to < count → b.left from to ≡ []
  nothing_left from to from_in to_in =
      let h = nodes_somewhere count size alone s b to to_in in
      ap (b.left from) (sym h.node_is) ∙ (sym (b.folds.parts h.id h.view h.place h.part from h.seat h.there from_in) ∙ none h.id h.view h.place h.part h.seat h.there from from_in)

  box : (from to : ℕ) → from < count → to < count → from * count + to < count * count →
      (slice_index t.words (plain_count count size + (from * count + to)) ≢ 1) × (place_at [] (b.fronts from) to ≡ [])
  box from to from_in to_in inside = let k = from * count + to in
      none_full (place_at [] (b.fronts from) to) (b.left from to) (slice_index s.words (plain_count count size + k)) (get_elem? s.homes k) (slice_index t.words (plain_count count size + k)) (get_elem? t.homes k)
      (b.folds.mail from to from_in to_in) (full k inside) (nothing_left from to from_in to_in)

  full_there : (k : ℕ) → k < count * count → slice_index t.words (size + 1 + count + k) ≢ 1
  full_there k l full_one =
      let at = split count count k l in
      (box at.0 at.1 at.2 at.3 (let e = at.4 in omega (arith, e, l))).0 (ap (λ j. slice_index t.words (plain_count count size + j)) (sym at.4) ∙ full_one)

  -- so each quiet node is quiet as it is shown
  quiet_shown : (id : ℕ) (v : View) (j : ℕ) (p : Part) → get_elem? s.views id ≡ some v → get_elem? v.parts j ≡ some p → is_quiet p.state ≡ true → is_quiet (behind (b.fronts p.node) p.state) ≡ true
  quiet_shown id v j p seat there quiet =
      let g = part_shown b.folds id v j p seat there in
      let is = (b.rules.shows.parts id g.view j (shown_part b.fronts p) g.seat g.there).1 in
      let inside : p.node < b.rules.world.count = is.inside in
      let same = b.rules.nodes in
      let node_in : p.node < count = omega (arith, inside, same) in
      quiet_behind (b.fronts p.node) p.state quiet (all_empty (fronted (b.fronts p.node) p.state.outboxes) (λ i. ⊎_elim
      (λ (low : i < count). place_front (b.fronts p.node) p.state.outboxes i ∙
      (ap (λ (l : List Message). l ++ place_at [] p.state.outboxes i) (box p.node i node_in low (inside_square count p.node i node_in low)).1 ∙
      empty_at p.state.outboxes i (boxes_empty p.state quiet)))
      (λ (high : count ≤ i). ap (λ (n : Node). outbox n i) (sym is.state) ∙ b.rules.lawful.bounded.box p.node i inside (omega (arith, high, same)))
      (below_or i count)))

  quiet_part : (id : ℕ) (u : View) (j : ℕ) (q : Part) (g : Folded s b.fronts id j q) → is_quiet g.part.state ≡ true → is_quiet q.state ≡ true
  quiet_part id u j q g quiet = ap (λ (x : Part). is_quiet x.state) (sym g.shows) ∙ quiet_shown id g.view j g.part g.seat g.there quiet

pub quiet_batches : QuietBatchesShowQuiet
quiet_batches count size alone s b each full =
    let none : EachPart s.views (HasNoBatch count) = λ id v j p seat there. (each id v j p seat there).1 in
    quiet_parts_show_quiet count size b.single b.rules
    (λ id u j q seat there. let g = part_folded b.folds id u j q seat there in
    quiet_part count size alone s b none full id u j q g (each id g.view j g.part g.seat g.there).0)
    (full_there count size alone s b none full)

pub settled_batches : SettledBatchesAreDirect
settled_batches count size alone s b each full =
    let none : EachPart s.views (HasNoBatch count) = λ id v j p seat there. (each id v j p seat there).1 in
    settled_parts_are_direct count size b.single b.rules
    (λ id u j q seat there. let g = part_folded b.folds id u j q seat there in
    let is = (each id g.view j g.part g.seat g.there).0 in
    subst (λ (x : Part). IsSettled x.state) g.shows
    (record { quiet = quiet_shown count size alone s b none full id g.view j g.part g.seat g.there is.quiet; wet = is.wet }))
    (full_there count size alone s b none full)
