-- A seat takes in another's view and slots.
use Rattle.std.specs.Prelude.{◌≡◌, ◌≢◌, ◌⊎◌, ℕ, Bool, true, false, ◌||◌, cond, nat_eq, List, [], ◌∷◌, ◌++◌, map, slice_index, refl}
use Rattle.std.proofs.Common.{arith, ap, ◌∙◌, sym, subst, inl, inr, ⊎_elim, set}
use Rattle.std.proofs.lemmas.List.{map-set}
use Rattle.std.proofs.lemmas.Bool.Decides.{nat_tests}
use mathlib.Core.Option.{some, some-injective}
use mathlib.Core.Logic.{dite}
use native.Mathlib.Decide.{ℕ_discrete}
use lib.ListN.{get_elem?}
use Rattle.atomic_table.specs.Table.{State}
use Rattle.atomic_table.proofs.Lists.{at_set, set_here, set_else, at_map}
use Rattle.ipcz_slots.specs.declared.own.Own.{Own}
use Rattle.ipcz_slots.specs.Slots.{Virtual, Sizes, Owns, HasOwner, SlotSays, of_none, Status, Shows, Dirty, Free, Spare, slot_of, let_go_word, has_number}
use Rattle.ipcz_slots.specs.SlotKinds.{JoinsSeats}
use Rattle.ipcz_slots.proofs.Folding.{says_still, view_at, at_inside}
use Rattle.ipcz_slots.proofs.Beginning.{no_slots}

either_by : (b : Bool) (i j : ℕ) (js ks : List ℕ) → nat_eq i j ≡ b → (has_number (js ++ ks) i ≡ true → (has_number js i ≡ true) ⊎ (has_number ks i ≡ true)) →
    (nat_eq i j || has_number (js ++ ks) i) ≡ true → ((nat_eq i j || has_number js i) ≡ true) ⊎ (has_number ks i ≡ true)
either_by true i j js ks e rest h = inl (ap (λ c. c || has_number js i) e)
either_by false i j js ks e rest h = ⊎_elim (λ k. inl (ap (λ c. c || has_number js i) e ∙ k)) (λ k. inr k) (rest (sym (ap (λ c. c || has_number (js ++ ks) i) e) ∙ h))

in_either : (js ks : List ℕ) (i : ℕ) → has_number (js ++ ks) i ≡ true → (has_number js i ≡ true) ⊎ (has_number ks i ≡ true)
in_either [] ks i h = inr h
in_either (j ∷ js) ks i h = either_by (nat_eq i j) i j js ks refl (in_either js ks i) h

-- the slots of one seat are another's
pub moved : ℕ → ℕ → Status → Status
moved other id (Shows i) = Shows i
moved other id (Dirty k) = Dirty (cond (nat_eq k other) id k)
moved other id (Free k) = Free (cond (nat_eq k other) id k)
moved other id Spare = Spare

says_moved : {S V : Type 0} (x : Virtual S V) (z : Sizes) (t : State S V) (r : x.holds t) (p word bits other id : ℕ) (st : Status) → SlotSays x z of_none t r p word bits st → SlotSays x z of_none t r p word bits (moved other id st)
unfolding moved
says_moved x z t r p word bits other id (Shows i) h = h
says_moved x z t r p word bits other id (Dirty k) h = h
says_moved x z t r p word bits other id (Free k) h = h
says_moved x z t r p word bits other id Spare h = h

shows_moved : (other id i : ℕ) (st : Status) → st ≡ Shows i → moved other id st ≡ Shows i
unfolding moved
shows_moved other id i st e = ap (moved other id) e

to_id : (other id k : ℕ) → k ≡ other → cond (nat_eq k other) id k ≡ id
to_id other id k e = let h : nat_eq k other ≡ true = grind (arith, nat_tests, e) in ap (λ b. cond b id k) h

stays : (other id k : ℕ) → k ≢ other → cond (nat_eq k other) id k ≡ k
stays other id k ne = let h : nat_eq k other ≡ false = grind (arith, nat_tests, ne) in ap (λ b. cond b id k) h

dirty_moved : (other id k j : ℕ) (st : Status) → st ≡ Dirty k → cond (nat_eq k other) id k ≡ j → moved other id st ≡ Dirty j
unfolding moved
dirty_moved other id k j st e h = ap (moved other id) e ∙ ap Dirty h

free_moved : (other id k j : ℕ) (st : Status) → st ≡ Free k → cond (nat_eq k other) id k ≡ j → moved other id st ≡ Free j
unfolding moved
free_moved other id k j st e h = ap (moved other id) e ∙ ap Free h

has_left : (js ks : List ℕ) (i : ℕ) → has_number js i ≡ true → has_number (js ++ ks) i ≡ true
has_left [] ks i h = absurd (cc)
has_left (j ∷ js) ks i h = by (nat_eq i j) (has_left js ks i) h
  where
    by : (b : Bool) → (has_number js i ≡ true → has_number (js ++ ks) i ≡ true) → (b || has_number js i) ≡ true → (b || has_number (js ++ ks) i) ≡ true
    by true rest k = refl
    by false rest k = rest k

has_right : (js ks : List ℕ) (i : ℕ) → has_number ks i ≡ true → has_number (js ++ ks) i ≡ true
has_right [] ks i h = h
has_right (j ∷ js) ks i h = ap (λ c. nat_eq i j || c) (has_right js ks i h) ∙ or_true (nat_eq i j)
  where
    or_true : (b : Bool) → (b || true) ≡ true
    or_true true = refl
    or_true false = refl

-- where one seat takes in the slots of another, they are its own
module _ {V : Type 0} (views : List (Own V)) (id other : ℕ) (o p : Own V) (both spent : V) (apart : other ≢ id) (at : get_elem? views id ≡ some o) (his : get_elem? views other ≡ some p) where
  abbrev mine : Own V
  mine = record { view = both; dirty = o.dirty ++ p.dirty; free = o.free ++ p.free; looked = o.looked }

  abbrev empty : Own V
  empty = record { view = spent; dirty = []; free = []; looked = [] }

  abbrev views2 : List (Own V)
  views2 = set (set views id mine) other empty

  mine_there : get_elem? views2 id ≡ some mine
  mine_there = set_else (set views id mine) other id empty (λ e. apart (sym e)) ∙ set_here views id mine (at_inside views id o at)

  others_there : (k : ℕ) (q : Own V) → k ≢ id → k ≢ other → get_elem? views k ≡ some q → get_elem? views2 k ≡ some q
  others_there k q n m h = set_else (set views id mine) other k empty m ∙ (set_else views id k mine n ∙ h)

  same_at : (k j : ℕ) (q r : Own V) → k ≡ j → get_elem? views k ≡ some q → get_elem? views j ≡ some r → q ≡ r
  same_at k j q r e h t = some-injective q r (sym h ∙ (ap (get_elem? views) e ∙ t))

  pub owner_moved : (n : ℕ) (st : Status) → HasOwner views n st → HasOwner views2 n (moved other id st)
  unfolding moved
  owner_moved n (Shows i) h = tt
  owner_moved n (Dirty k) h = dite (ℕ_discrete k other)
      (λ e. subst (λ j. HasOwner views2 n (Dirty j)) (sym (to_id other id k e))
      (mine, mine_there, has_right o.dirty p.dirty n (subst (λ q. has_number q.dirty n ≡ true) (same_at k other h.0 p e h.1 his) h.2)))
      (λ ne. subst (λ j. HasOwner views2 n (Dirty j)) (sym (stays other id k ne)) (dite (ℕ_discrete k id)
      (λ e. subst (λ j. HasOwner views2 n (Dirty j)) (sym e)
      (mine, mine_there, has_left o.dirty p.dirty n (subst (λ q. has_number q.dirty n ≡ true) (same_at k id h.0 o e h.1 at) h.2)))
      (λ no. (h.0, others_there k h.0 no ne h.1, h.2))))
  owner_moved n (Free k) h = dite (ℕ_discrete k other)
      (λ e. subst (λ j. HasOwner views2 n (Free j)) (sym (to_id other id k e))
      (mine, mine_there, has_right o.free p.free n (subst (λ q. has_number q.free n ≡ true) (same_at k other h.0 p e h.1 his) h.2)))
      (λ ne. subst (λ j. HasOwner views2 n (Free j)) (sym (stays other id k ne)) (dite (ℕ_discrete k id)
      (λ e. subst (λ j. HasOwner views2 n (Free j)) (sym e)
      (mine, mine_there, has_left o.free p.free n (subst (λ q. has_number q.free n ≡ true) (same_at k id h.0 o e h.1 at) h.2)))
      (λ no. (h.0, others_there k h.0 no ne h.1, h.2))))
  owner_moved n Spare h = tt

pub joins_seats : {S V : Type 0} (x : Virtual S V) (z : Sizes) → JoinsSeats x z
joins_seats {S} {V} x z g id other o p both spent join s l at apart there =
    let t = l.0 in
    let r = l.1 in
    let f = l.2 in
    let mine : Own V = record { view = both; dirty = o.dirty ++ p.dirty; free = o.free ++ p.free; looked = o.looked } in
    let empty : Own V = record { view = spent; dirty = []; free = []; looked = [] } in
    let apart' : other ≢ id = apart in
    let apart'' : id ≢ other = λ e. apart (sym e) in
    let his : get_elem? s.views other ≡ some p = sym (set_else s.views id other mine apart') ∙ there in
    let views1 : map (λ (q : Own V). q.view) (set s.views id mine) ≡ set t.views id both = map-set (λ q. q.view) s.views id mine ∙ ap (λ vs. set vs id both) f.views in
    let his_view : get_elem? (set t.views id both) other ≡ some p.view = subst (λ vs. get_elem? vs other ≡ some p.view) views1 (at_map (λ q. q.view) (set s.views id mine) other p there) in
    let d = join t r (view_at x z s t r f id o at) apart his_view in
    let t' : State S V = record { words = t.words; homes = t.homes; views = set (set t.views id both) other spent } in
    let w = f.own id o at in
    let u = f.own other p his in
    let united : Owns z (λ q. moved other id (f.status q)) id (o.dirty ++ p.dirty) (o.free ++ p.free) = record {
      dirty_is = λ q h. ⊎_elim
          (λ k. let e = w.dirty_is q k in (e.0, dirty_moved other id id id (f.status q) e.1 (stays other id id apart'')))
          (λ k. let e = u.dirty_is q k in (e.0, dirty_moved other id other id (f.status q) e.1 (to_id other id other refl)))
          (in_either o.dirty p.dirty q h);
      free_is = λ q h. ⊎_elim
          (λ k. let e = w.free_is q k in (e.0, free_moved other id id id (f.status q) e.1 (stays other id id apart'')))
          (λ k. let e = u.free_is q k in (e.0, free_moved other id other id (f.status q) e.1 (to_id other id other refl)))
          (in_either o.free p.free q h);
    } in (
      (
        t',
        d.0,
        record {
          wide = f.wide;
          tall = f.tall;
          homes = f.homes;
          views = map-set (λ q. q.view) (set s.views id mine) other empty ∙ ap (λ vs. set vs other spent) views1;
          rest = f.rest;
          status = λ q. moved other id (f.status q);
          slots = λ q k. says_moved x z t' d.0 q (slice_index s.words q) (slice_index s.words (let_go_word z q)) other id (f.status q)
              (says_still x z of_none t t' r d.0 q (slice_index s.words q) (slice_index s.words (let_go_word z q)) (f.status q) (λ i e b. refl) (λ b i e. d.1.0 b i)
              (λ again b i e out. d.1.1 b i) (f.slots q k));
          others = λ i k. ⊎_elim (λ e. inl (shows_moved other id i (f.status (slot_of z i)) e)) (λ h. inr (d.1.0 false i h.0, d.1.0 true i h.1)) (f.others i k);
          owned = λ q k. owner_moved s.views id other o p both spent apart' at his q (f.status q) (f.owned q k);
          own = λ j q here. ⊎_elim
              (λ e. no_slots z (λ n. moved other id (f.status n)) j q.dirty q.free (ap (λ (y : Own V). y.dirty) (sym e.1)) (ap (λ (y : Own V). y.free) (sym e.1)))
              (λ e. ⊎_elim
              (λ g. subst (λ y. Owns z (λ n. moved other id (f.status n)) j y.dirty y.free) g.1 (subst (λ n. Owns z (λ m. moved other id (f.status m)) n mine.dirty mine.free) (sym g.0) united))
              (λ g. let v = f.own j q g.1 in record {
                dirty_is = λ n h. let k = v.dirty_is n h in (k.0, dirty_moved other id j j (f.status n) k.1 (stays other id j e.0));
                free_is = λ n h. let k = v.free_is n h in (k.0, free_moved other id j j (f.status n) k.1 (stays other id j e.0));
              })
              (at_set s.views id j mine q e.1))
              (at_set (set s.views id mine) other j empty q here);
          whole = λ e. let w1 = f.whole e in record { shows = λ q l. shows_moved other id q (f.status q) (w1.shows q l); fresh = w1.fresh };
        },
      ),
      d.2,
    )
