-- A step of a table of batches whose word is no mailbox's, out of the step that it is of the single table: there its seat has the part as it is shown,
-- and has taken no slot.
use Rattle.std.specs.Prelude.{◌≡◌, ◌≢◌, ◌≤◌, ◌<◌, ◌+◌, ◌-◌, ◌*◌, ℕ, zero, suc, Bool, true, false, cond, nat_eq, List, [], ◌∷◌, ◌++◌, length, slice_index, refl}
use Rattle.std.specs.Int.{bit_at}
use Rattle.std.proofs.Common.{arith, ap, ◌∙◌, sym, subst, ⊎_elim, set, length-set, get_or-set_same, get_or-set_other}
use Rattle.std.proofs.lemmas.List.{set-get_or, get_or_past}
use mathlib.Core.Option.{some, none}
use mathlib.Core.Option as maybe
use mathlib.Core.Logic.{dite}
use native.Mathlib.Decide.{ℕ_discrete}
use lib.ListN.{get_elem?}
use Rattle.atomic_table.specs.Table.{Act as TableAct, keeps, takes, gives, chain, Valid, stepped, carried_after, homes_after}
use Rattle.atomic_table.proofs.Lists.{at_set, set_here, set_else}
use Rattle.ipcz_base.specs.Indexed.{place_at}
use Rattle.ipcz_node.specs.declared.act.Act.{Act}
use Rattle.ipcz_world.specs.Ranks.{AreTurns}
use Rattle.ipcz_world.specs.World.{World}
use Rattle.ipcz_world.specs.Books.{Books}
use Rattle.ipcz_world.specs.Routes.{Routes}
use Rattle.ipcz_rule.specs.declared.view.View.{View}
use Rattle.ipcz_rule.specs.declared.view.Part.{Part}
use Rattle.ipcz_rule.specs.Rule.{Slot, St, Mine, Rules}
use Rattle.ipcz_rule.specs.Deeds.{Deed}
use Rattle.ipcz_rule.specs.Kinds.{Done, KeepsEnds}
use Rattle.ipcz_rule.specs.Batches.{Batch, BatchSt, BatchMine, plain_count, seen_at, batch_from, ViewFolds, MailFolds, Folds, Batched, Between, BatchStep}
use Rattle.ipcz_rule.proofs.Histories.{only}
use Rattle.ipcz_rule.proofs.Moved.{at_inside}
use Rattle.ipcz_rule.proofs.QuietParts.{below_or, split}

-- what is known of a step by what it is: turns, or deeds
abbrev pub KnownBy : Type 0 → Type 1
KnownBy X = X → World → Books → Routes → World → Books → Routes → Type 0

abbrev pub by_turns : KnownBy (List (ℕ × Act))
by_turns turns w b g w' b' g' = AreTurns w b g turns w' b' g'

abbrev pub by_deeds : KnownBy (List Deed)
by_deeds deeds w b g w' b' g' = Done w b g deeds w' b' g'

abbrev pub by_kept : (all : Bool) → KnownBy (List (ℕ × Act))
by_kept all turns w b g w' b' g' = KeepsEnds all w w'

-- that a step of the single table keeps its rule and is so, as BatchStep says it of a table of batches
abbrev pub SingleStep : Between → (count size slots id : ℕ) → Mine → ℕ → (ℕ → ℕ) → (ℕ → Mine → Type 0) → Type 0
SingleStep is count size slots id me i f told =
    (s : St) (r : Rules count size s) → length s.homes ≡ slots → get_elem? s.views id ≡ some me.0 →
    slice_index s.words i < 18446744073709551616 →
    (v : View) × (a : TableAct Slot) × Valid s.homes me.1 a ×
    ((r' : Rules count size (stepped s i (f (slice_index s.words i)) id me.1 v a)) ×
    is (slice_index s.words i) r.world r.books r.routes r'.world r'.books r'.routes) ×
    told (slice_index s.words i) (v, carried_after me.1 a)

abbrev pub SingleBy : {X : Type 0} → KnownBy X → (count size slots id : ℕ) → Mine → ℕ → (ℕ → ℕ) → (ℕ → X) → (ℕ → Mine → Type 0) → Type 0
SingleBy q count size slots id me i f steps told = SingleStep (λ n. q (steps n)) count size slots id me i f told

abbrev pub BatchBy : {X : Type 0} → Bool → KnownBy X → (count size slots id : ℕ) → BatchMine → ℕ → (ℕ → ℕ) → (ℕ → X) → (ℕ → BatchMine → Type 0) → Type 0
BatchBy alone q count size slots id me i f steps told = BatchStep alone (λ n. q (steps n)) count size slots id me i f told

-- what such a step leaves of the single table's seat, and the view of the seat that folds it
pub record Leaves (count size : ℕ) (fronts : ℕ → List Batch) (m : BatchMine) (p : Part) (told : BatchMine → Type 0) (m1 : Mine) : Type 0 where
  pub none_carried : m1.1 ≡ []
  pub view : View
  pub part : Part
  pub parts : view.parts ≡ part ∷ []
  pub node : part.node ≡ p.node
  pub batches : part.batches ≡ p.batches
  pub folds : ViewFolds count size fronts view m1.0
  pub is : told (view, m.1)

-- numbers that were seen more
pub seen-more : (i : ℕ) (es more : List (ℕ × ℕ)) → seen_at i (es ++ more) ≡ seen_at i es ++ seen_at i more
seen-more i [] more = refl
seen-more i (e ∷ es) more = by (nat_eq e.0 i) (seen-more i es more)
  where
    by : (b : Bool) → seen_at i (es ++ more) ≡ seen_at i es ++ seen_at i more →
        cond b (e.1 ∷ seen_at i (es ++ more)) (seen_at i (es ++ more)) ≡ cond b (e.1 ∷ seen_at i es) (seen_at i es) ++ seen_at i more
    by true h = ap (λ ns. e.1 ∷ ns) h
    by false h = h

-- the slots with all values back that a seat carries
abbrev pub all_back : {S : Type 0} → List (maybe.Option S) → List (ℕ × S) → List (maybe.Option S)
all_back hs [] = hs
all_back hs (x ∷ xs) = all_back (set hs x.0 (some x.1)) xs

taken_back : {S : Type 0} (hs : List (maybe.Option S)) (k : ℕ) (y : S) → get_elem? hs k ≡ some (some y) → set (set hs k none) k (some y) ≡ hs
taken_back [] k y e = refl
taken_back (h ∷ hs) zero y e = ap (λ z. z ∷ hs) (sym (maybe.some-injective h (some y) e))
taken_back (h ∷ hs) (suc k) y e = ap (λ zs. h ∷ zs) (taken_back hs k y e)

-- no act loses a slot's value
pub back_stays : {S : Type 0} (hs : List (maybe.Option S)) (c : List (ℕ × S)) (a : TableAct S) → Valid hs c a → all_back (homes_after hs c a) (carried_after c a) ≡ all_back hs c
back_stays hs c keeps valid = refl
back_stays hs c (takes k y) valid = ap (λ zs. all_back zs c) (taken_back hs k y valid)
back_stays hs [] gives valid = refl
back_stays hs (x ∷ xs) gives valid = refl
back_stays hs c (chain a b) valid = back_stays (homes_after hs c a) (carried_after c a) b valid.1 ∙ back_stays hs c a valid.0

-- a seat that has taken none, and has none behind its act, leaves all slots as they were
pub homes_stay : {S : Type 0} (hs : List (maybe.Option S)) (a : TableAct S) → Valid hs [] a → carried_after [] a ≡ [] → homes_after hs [] a ≡ hs
homes_stay hs a valid none_left = ap (all_back (homes_after hs [] a)) (sym none_left) ∙ back_stays hs [] a valid

-- the number of a mailbox's word in the single table is small
single_small : (rest left : Batch) (n : ℕ) (home : maybe.Option (maybe.Option Batch)) (m : ℕ) (one : maybe.Option (maybe.Option Slot)) → MailFolds n home m one rest left → m ≤ 3
single_small rest left zero home m one h = let e = h.1 in omega (arith, e)
single_small rest left (suc zero) home m one h = let e = h.2 in omega (arith, e)
single_small rest left (suc (suc zero)) home m one h = ⊎_elim (λ t. let e = t.0 in omega (arith, e)) (λ t. let e = t.1 in omega (arith, e)) h
single_small rest left (suc (suc (suc zero))) home m one h = let e = h.0 in omega (arith, e)
single_small rest left (suc (suc (suc (suc n)))) home m one h = absurd h

module _ {count size : ℕ} {alone : Bool} {s : BatchSt} {t : St} {fronts : ℕ → List Batch} {left : ℕ → ℕ → Batch} (f : Folds count size alone s t fronts left) (r : Rules count size t) where
  -- how many words there are
  pub word_total : length t.words ≡ plain_count count size + count * count
  word_total = r.shows.wide ∙ (ap (λ n. n + 1 + r.world.count + r.world.count * r.world.count) r.words ∙ ap (λ n. size + 1 + n + n * n) r.nodes)

  -- so each number that is found in the single table is one of a word
  pub found_small : (i : ℕ) → slice_index s.words i < 18446744073709551616 → slice_index t.words i < 18446744073709551616
  found_small i small = ⊎_elim
      (λ (low : i < plain_count count size). let e = f.words i low in omega (arith, e, small))
      (λ (high : plain_count count size ≤ i). ⊎_elim
      (λ (inside : i < plain_count count size + count * count). mailbox_word high inside)
      (λ (past : plain_count count size + count * count ≤ i). let n = word_total in let e = get_or_past t.words i 0 (omega (arith, n, past)) in omega (arith, e))
      (below_or i (plain_count count size + count * count)))
      (below_or i (plain_count count size))
    where
      mailbox_word : plain_count count size ≤ i → i < plain_count count size + count * count → slice_index t.words i < 18446744073709551616
      mailbox_word high inside =
          let k = i - plain_count count size in
          let at = split count count k (omega (arith, high, inside)) in
          let same : plain_count count size + (at.0 * count + at.1) ≡ i = let e = at.4 in omega (arith, e, high) in
          let few = single_small (place_at [] (fronts at.0) at.1) (left at.0 at.1) (slice_index s.words (plain_count count size + (at.0 * count + at.1))) (get_elem? s.homes (at.0 * count + at.1)) (slice_index t.words (plain_count count size + (at.0 * count + at.1)))
          (get_elem? t.homes (at.0 * count + at.1)) (f.mail at.0 at.1 at.2 at.3) in
          let e = ap (slice_index t.words) same in omega (arith, few, e)

-- words that are the same before the mailboxes, mailboxes whose words stay, and bits of senders of whom something is left
pub record WordsFold (count size : ℕ) (s : BatchSt) (t : St) (left : ℕ → ℕ → Batch) (ws wt : List ℕ) : Type 0 where
  pub long : length ws ≡ length s.words
  pub long_there : length wt ≡ length t.words
  pub words : (i : ℕ) → i < plain_count count size → slice_index ws i ≡ slice_index wt i
  pub boxes : (k : ℕ) → slice_index ws (plain_count count size + k) ≡ slice_index s.words (plain_count count size + k)
  pub boxes_there : (k : ℕ) → slice_index wt (plain_count count size + k) ≡ slice_index t.words (plain_count count size + k)
  pub announced : (from to : ℕ) → from < count → to < count → left from to ≢ [] → bit_at (slice_index ws (size + 1 + to)) from ≡ 1

-- the table after a step that changes no mailbox folds the single one after its step, if the views of the seat do
pub folds_after : {count size : ℕ} {alone : Bool} {s : BatchSt} {t : St} {fronts : ℕ → List Batch} {left : ℕ → ℕ → Batch} → Folds count size alone s t fronts left →
    (id : ℕ) (v v' u u' : View) (p p' : Part) → get_elem? s.views id ≡ some v → get_elem? t.views id ≡ some u → v.parts ≡ p ∷ [] → v'.parts ≡ p' ∷ [] → p'.node ≡ p.node → p'.batches ≡ p.batches →
    ViewFolds count size fronts v' u' → (ws wt : List ℕ) → WordsFold count size s t left ws wt →
    Folds count size alone (record { words = ws; homes = s.homes; views = set s.views id v' }) (record { words = wt; homes = t.homes; views = set t.views id u' }) fronts left
folds_after {count} {size} {alone} {s} {t} {fronts} {left} f id v v' u u' p p' at at_there is is' node batches own ws wt words = record {
  wide = words.long ∙ (f.wide ∙ sym words.long_there);
  deep = f.deep;
  many = length-set s.views id v' ∙ (f.many ∙ sym (length-set t.views id u'));
  words = words.words;
  mail = λ from to lf lt. let k = from * count + to in
      subst (λ n. MailFolds n (get_elem? s.homes k) (slice_index wt (plain_count count size + k)) (get_elem? t.homes k) (place_at [] (fronts from) to) (left from to)) (sym (words.boxes k))
      (subst (λ n. MailFolds (slice_index s.words (plain_count count size + k)) (get_elem? s.homes k) n (get_elem? t.homes k) (place_at [] (fronts from) to) (left from to)) (sym (words.boxes_there k)) (f.mail from to lf lt));
  views = λ j w seat. ⊎_elim
      (λ (h : (j ≡ id) × (v' ≡ w)). (
        u',
        ap (get_elem? (set t.views id u')) h.0 ∙ set_here t.views id u' (at_inside t.views id u at_there),
        subst (λ z. ViewFolds count size fronts z u') h.1 own,
      ))
      (λ (h : (j ≢ id) × (get_elem? s.views j ≡ some w)). let g = f.views j w h.1 in (g.0, set_else t.views id j u' h.0 ∙ g.1, g.2))
      (at_set s.views id j v' w seat);
  parts = λ j w k q from seat there lf. ⊎_elim
      (λ (h : (j ≡ id) × (v' ≡ w)).
      let same : p' ≡ q = only w.parts p' q k (sym (ap (λ (z : View). z.parts) h.1) ∙ is') there in
      subst (λ (z : Part). batch_from z from ≡ left from z.node) same
      (ap (λ bs. place_at [] bs from) batches ∙ (f.parts id v 0 p from at (ap (λ (l : List Part). get_elem? l 0) is) lf ∙ ap (left from) (sym node))))
      (λ (h : (j ≢ id) × (get_elem? s.views j ≡ some w)). f.parts j w k q from h.1 there lf)
      (at_set s.views id j v' w seat);
  announced = words.announced;
  none_behind = f.none_behind;
  none_left = f.none_left;
}

-- a touch: each word stays, and its seat takes no slot
module _ (count size : ℕ) (alone : Bool) (slots id : ℕ) (m : BatchMine) (p : Part) (i : ℕ) (told : ℕ → BatchMine → Type 0) (is : m.0.parts ≡ p ∷ []) where
  pub touch_step : (known : World → Books → Routes → World → Books → Routes → Type 0) (told1 : (ℕ → List Batch) → View → ℕ → Mine → Type 0) →
      ((fronts : ℕ → List Batch) (u : View) → ViewFolds count size fronts m.0 u → SingleStep (λ n. known) count size slots id (u, []) i (λ n. n) (told1 fronts u)) →
      ((fronts : ℕ → List Batch) (u : View) → ViewFolds count size fronts m.0 u → (n n1 : ℕ) (m1 : Mine) → (i < plain_count count size → n1 ≡ n) → told1 fronts u n1 m1 → Leaves count size fronts m p (told n) m1) →
      BatchStep alone (λ n. known) count size slots id m i (λ n. n) told
  touch_step known told1 single leaves s b deep at small =
      let t = b.single in
      let f = b.folds in
      let h = f.views id m.0 at in
      let st = single b.fronts h.0 h.2 t b.rules (sym f.deep ∙ deep) h.1 (found_small f b.rules i small) in
      let l = leaves b.fronts h.0 h.2 (slice_index s.words i) (slice_index t.words i) (st.0, carried_after [] st.1) (λ low. sym (f.words i low)) st.4 in
      let gave = homes_stay t.homes st.1 st.2 l.none_carried in
      let After : List ℕ → List (maybe.Option Slot) → Type 0 = λ ws hs. (r' : Rules count size (record { words = ws; homes = hs; views = set t.views id st.0 })) ×
      known b.rules.world b.rules.books b.rules.routes r'.world r'.books r'.routes in
      let after : After t.words t.homes = subst (λ ws. After ws t.homes) (set-get_or t.words i 0) (subst (After (set t.words i (slice_index t.words i))) gave st.3) in
      let same : set s.words i (slice_index s.words i) ≡ s.words = set-get_or s.words i 0 in
      let stay : (k : ℕ) → slice_index (set s.words i (slice_index s.words i)) k ≡ slice_index s.words k = λ k. ap (λ ws. slice_index ws k) same in (
        l.view,
        keeps,
        tt,
        (
          record {
            single = record { words = t.words; homes = t.homes; views = set t.views id st.0 };
            rules = after.0;
            fronts = b.fronts;
            left = b.left;
            folds = folds_after f id m.0 l.view h.0 st.0 p l.part at h.1 is l.parts l.node l.batches l.folds (set s.words i (slice_index s.words i)) t.words (record {
              long = ap length same;
              long_there = refl;
              words = λ j low. stay j ∙ f.words j low;
              boxes = λ k. stay (plain_count count size + k);
              boxes_there = λ k. refl;
              announced = λ from to lf lt some_left. ap (λ n. bit_at n from) (stay (size + 1 + to)) ∙ f.announced from to lf lt some_left;
            });
          },
          after.1,
        ),
        l.is,
      )

  -- a step on a word before the mailboxes, that keeps the bits of all senders of whom something is left
  pub plain_step : (known : Between) (g : ℕ → ℕ) (told1 : (ℕ → List Batch) → View → ℕ → Mine → Type 0) →
      ((fronts : ℕ → List Batch) (u : View) → ViewFolds count size fronts m.0 u → (t : St) → Rules count size t → get_elem? t.views id ≡ some u → i < plain_count count size) →
      ((s : BatchSt) (b : Batched count size alone s) → get_elem? s.views id ≡ some m.0 → (from to : ℕ) → from < count → to < count → b.left from to ≢ [] → i ≡ size + 1 + to →
      bit_at (slice_index s.words i) from ≡ 1 → bit_at (g (slice_index s.words i)) from ≡ 1) →
      ((fronts : ℕ → List Batch) (u : View) → ViewFolds count size fronts m.0 u → SingleStep known count size slots id (u, []) i g (told1 fronts u)) →
      ((fronts : ℕ → List Batch) (u : View) → ViewFolds count size fronts m.0 u → (n : ℕ) (m1 : Mine) → told1 fronts u n m1 → Leaves count size fronts m p (told n) m1) →
      BatchStep alone known count size slots id m i g told
  plain_step known g told1 low bits single leaves s b deep at small =
      let t = b.single in
      let f = b.folds in
      let h = f.views id m.0 at in
      let below = low b.fronts h.0 h.2 t b.rules h.1 in
      let n : ℕ = slice_index s.words i in
      let same : slice_index t.words i ≡ n = sym (f.words i below) in
      let st = single b.fronts h.0 h.2 t b.rules (sym f.deep ∙ deep) h.1 (found_small f b.rules i small) in
      let l = leaves b.fronts h.0 h.2 n (st.0, carried_after [] st.1) (subst (λ k. told1 b.fronts h.0 k (st.0, carried_after [] st.1)) same st.4) in
      let gave = homes_stay t.homes st.1 st.2 l.none_carried in
      let After : ℕ → List (maybe.Option Slot) → Type 0 = λ k hs. (r' : Rules count size (record { words = set t.words i (g k); homes = hs; views = set t.views id st.0 })) ×
      known k b.rules.world b.rules.books b.rules.routes r'.world r'.books r'.routes in
      let after : After n t.homes = subst (λ k. After k t.homes) same (subst (After (slice_index t.words i)) gave st.3) in
      let total = word_total f b.rules in
      let wide : i < length s.words = let e = f.wide in omega (arith, e, total, below) in
      let here : slice_index (set s.words i (g n)) i ≡ g n = get_or-set_same s.words i (g n) 0 wide in
      let here_there : slice_index (set t.words i (g n)) i ≡ g n = let e = f.wide in get_or-set_same t.words i (g n) 0 (omega (arith, e, wide)) in (
        l.view,
        keeps,
        tt,
        (
          record {
            single = record { words = set t.words i (g n); homes = t.homes; views = set t.views id st.0 };
            rules = after.0;
            fronts = b.fronts;
            left = b.left;
            folds = folds_after f id m.0 l.view h.0 st.0 p l.part at h.1 is l.parts l.node l.batches l.folds (set s.words i (g n)) (set t.words i (g n)) (record {
              long = length-set s.words i (g n);
              long_there = length-set t.words i (g n);
              words = λ j lj. dite (ℕ_discrete j i)
                  (λ e. ap (slice_index (set s.words i (g n))) e ∙ (here ∙ sym (ap (slice_index (set t.words i (g n))) e ∙ here_there)))
                  (λ ne. get_or-set_other s.words i j (g n) 0 ne ∙ (f.words j lj ∙ sym (get_or-set_other t.words i j (g n) 0 ne)));
              boxes = λ k. get_or-set_other s.words i (plain_count count size + k) (g n) 0 (λ e. omega (arith, e, below));
              boxes_there = λ k. get_or-set_other t.words i (plain_count count size + k) (g n) 0 (λ e. omega (arith, e, below));
              announced = λ from to lf lt some_left. dite (ℕ_discrete (size + 1 + to) i)
                  (λ e. ap (λ k. bit_at (slice_index (set s.words i (g n)) k) from) e ∙ (ap (λ k. bit_at k from) here ∙
                  bits s b at from to lf lt some_left (sym e) (ap (λ k. bit_at (slice_index s.words k) from) (sym e) ∙ f.announced from to lf lt some_left)))
                  (λ ne. ap (λ k. bit_at k from) (get_or-set_other s.words i (size + 1 + to) (g n) 0 ne) ∙ f.announced from to lf lt some_left);
            });
          },
          after.1,
        ),
        l.is,
      )
