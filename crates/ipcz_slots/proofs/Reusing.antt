-- A slot comes back: it is taken by one seat once both sides have let its number go, its word is emptied, and a claim takes another number for it.
use Rattle.std.specs.Prelude.{◌≡◌, ◌≢◌, ◌≤◌, ◌<◌, ◌⊎◌, ◌+◌, ℕ, Bool, true, false, ◌||◌, cond, nat_eq, List, [], ◌∷◌, length, slice_index, refl, MatchBool, eqb}
use Rattle.std.proofs.Common.{arith, ap, ◌∙◌, sym, subst, inl, inr, ⊎_elim, set, length-set, get_or-set_other, eqb-true}
use Rattle.std.proofs.lemmas.List.{map-set, set-get_or}
use Rattle.std.proofs.lemmas.Bool.Decides.{nat_tests}
use prog.Atomic.{either}
use mathlib.Core.Option.{some}
use mathlib.Core.Logic.{dite}
use native.Mathlib.Decide.{ℕ_discrete, dec_lt}
use lib.ListN.{get_elem?}
use Rattle.atomic_table.specs.Table.{State, Me, Act, Valid, stepped, carried_after, homes_after, keeps}
use Rattle.atomic_table.proofs.Lists.{set_again, set_here}
use Rattle.ipcz_slots.specs.declared.own.Own.{Own}
use Rattle.ipcz_slots.specs.Slots.{Virtual, Sizes, AreSizes, Lasting, Laws, Unused, Folds, of_none, HasOwner, SlotSays, LetGo, NotLetGo, Status, Shows, Dirty, Free, slot_of, let_go_word, has_number, without_number}
use Rattle.ipcz_slots.specs.SlotKinds.{Known, Reclaims, Empties, Claims, Skips, Takes, claimed_own, Keeps, LosesNone}
use Rattle.ipcz_slots.proofs.Folding.{other_folds, says_still, view_at, own_after, owned_after, at_inside, lost_stays, get_or-set_at, shows_slot}

itself_by : (b : Bool) (js : List ℕ) (i j : ℕ) → nat_eq j i ≡ b → has_number (without_number js i) i ≡ false → has_number (cond b (without_number js i) (j ∷ without_number js i)) i ≡ false
itself_by true js i j e h = h
itself_by false js i j e h = let ne : nat_eq i j ≡ false = grind (arith, e, nat_tests) in ap (λ b. b || has_number (without_number js i) i) ne ∙ h

without_itself : (js : List ℕ) (i : ℕ) → has_number (without_number js i) i ≡ false
without_itself [] i = refl
without_itself (j ∷ js) i = itself_by (nat_eq j i) js i j refl (without_itself js i)

other_by : (b : Bool) (js : List ℕ) (i j k : ℕ) → k ≢ i → nat_eq j i ≡ b → has_number (without_number js i) k ≡ has_number js k →
    has_number (cond b (without_number js i) (j ∷ without_number js i)) k ≡ (nat_eq k j || has_number js k)
other_by true js i j k ne e h = let apart : nat_eq k j ≡ false = grind (arith, e, ne, nat_tests) in h ∙ sym (ap (λ b. b || has_number js k) apart)
other_by false js i j k ne e h = ap (λ b. nat_eq k j || b) h

pub without_other : (js : List ℕ) (i k : ℕ) → k ≢ i → has_number (without_number js i) k ≡ has_number js k
without_other [] i k ne = refl
without_other (j ∷ js) i k ne = other_by (nat_eq j i) js i j k ne refl (without_other js i k ne)

-- what is left in a list without a number is another, and was in it
pub still_there : (js : List ℕ) (i k : ℕ) → has_number (without_number js i) k ≡ true → (k ≢ i) × (has_number js k ≡ true)
still_there js i k h = dite (ℕ_discrete k i)
    (λ e. absurd (let no = without_itself js i in let yes : has_number (without_number js i) i ≡ true = subst (λ q. has_number (without_number js i) q ≡ true) e h in cc))
    (λ ne. (ne, sym (without_other js i k ne) ∙ h))

-- a list with one more: that one, or it was in it
pub one_more : (js : List ℕ) (i k : ℕ) → has_number (i ∷ js) k ≡ true → (k ≡ i) ⊎ (has_number js k ≡ true)
one_more js i k h = dite (ℕ_discrete k i) (λ e. inl e)
    (λ ne. inr (let apart : nat_eq k i ≡ false = grind (arith, ne, nat_tests) in sym (ap (λ b. b || has_number js k) apart) ∙ h))

-- a list has what it has one more of, and what it had
pub has_first : (js : List ℕ) (i : ℕ) → has_number (i ∷ js) i ≡ true
has_first js i = let h : nat_eq i i ≡ true = grind (arith, nat_tests) in ap (λ b. b || has_number js i) h

pub has_more : (js : List ℕ) (i k : ℕ) → has_number js k ≡ true → has_number (i ∷ js) k ≡ true
has_more js i k h = ap (λ b. nat_eq k i || b) h ∙ or_true (nat_eq k i)
  where
    or_true : (b : Bool) → (b || true) ≡ true
    or_true true = refl
    or_true false = refl

-- one slot is for something else
abbrev pub status_at : (ℕ → Status) → ℕ → Status → ℕ → Status
status_at status p y q = cond (nat_eq q p) y (status q)

pub status_here : (status : ℕ → Status) (p : ℕ) (y : Status) (q : ℕ) → q ≡ p → status_at status p y q ≡ y
status_here status p y q e = let h : nat_eq q p ≡ true = grind (arith, e, nat_tests) in ap (λ b. cond b y (status q)) h

pub status_else : (status : ℕ → Status) (p : ℕ) (y : Status) (q : ℕ) → q ≢ p → status_at status p y q ≡ status q
status_else status p y q ne = let h : nat_eq q p ≡ false = grind (arith, ne, nat_tests) in ap (λ b. cond b y (status q)) h

-- a step by which a seat takes a slot that both sides have let go
module _ {S V : Type 0} (x : Virtual S V) (z : Sizes) (sizes : AreSizes z) (s : State S (Own V)) (t : State S V) (r : x.holds t) (f : Folds x z s t r)
    (id : ℕ) (o : Own V) (at : get_elem? s.views id ≡ some o) (p : ℕ) (reuse : z.reuses ≡ true) (low : p < z.slots) (three : slice_index s.words (let_go_word z p) ≡ 3) where
  abbrev o5 : Own V
  o5 = record { view = o.view; dirty = p ∷ o.dirty; free = o.free; looked = o.looked }

  abbrev s5 : State S (Own V)
  s5 = record { words = set s.words (let_go_word z p) 0; homes = s.homes; views = set s.views id o5 }

  abbrev status5 : ℕ → Status
  status5 = status_at f.status p (Dirty id)

  -- it was nobody's
  not_dirty : (j : ℕ) → f.status p ≡ Dirty j → ⊥
  not_dirty j e = let h : slice_index s.words (let_go_word z p) ≡ 0 = subst (λ y. SlotSays x z of_none t r p (slice_index s.words p) (slice_index s.words (let_go_word z p)) y) e (f.slots p low) in omega (arith, h, three)

  not_free : (j : ℕ) → f.status p ≡ Free j → ⊥
  not_free j e =
      let h : (slice_index s.words (let_go_word z p) ≡ 0) × (slice_index s.words p ≡ 0) = subst (λ y. SlotSays x z of_none t r p (slice_index s.words p) (slice_index s.words (let_go_word z p)) y) e (f.slots p low) in
      let a = h.0 in omega (arith, a, three)

  slots5 : (q : ℕ) → q < z.slots → SlotSays x z of_none t r q (slice_index s5.words q) (slice_index s5.words (let_go_word z q)) (status5 q)
  slots5 q l = dite (ℕ_discrete q p)
      (λ e. subst (λ y. SlotSays x z of_none t r q (slice_index s5.words q) (slice_index s5.words (let_go_word z q)) y) (sym (status_here f.status p (Dirty id) q e))
      (get_or-set_at s.words (let_go_word z p) (let_go_word z q) 0 (omega (arith, e)) (let w = f.wide in omega (arith, w, low))))
      (λ ne. let word : slice_index s5.words q ≡ slice_index s.words q = get_or-set_other s.words (let_go_word z p) q 0 0 (λ e. omega (arith, e, l)) in
      let bits : slice_index s5.words (let_go_word z q) ≡ slice_index s.words (let_go_word z q) = get_or-set_other s.words (let_go_word z p) (let_go_word z q) 0 0 (λ e. ne (omega (arith, e))) in
      subst (λ y. SlotSays x z of_none t r q (slice_index s5.words q) (slice_index s5.words (let_go_word z q)) y) (sym (status_else f.status p (Dirty id) q ne))
      (subst (λ k. SlotSays x z of_none t r q k (slice_index s5.words (let_go_word z q)) (f.status q)) (sym word)
      (subst (λ k. SlotSays x z of_none t r q (slice_index s.words q) k (f.status q)) (sym bits) (f.slots q l))))

  unused5 : (i : ℕ) → f.status (slot_of z i) ≡ Shows i → slot_of z i ≡ p → Unused x t r i
  unused5 i e h =
      let shown : f.status p ≡ Shows i = ap f.status (sym h) ∙ e in
      subst (λ k. LetGo x t r k i) three (shows_slot x z of_none t r p (slice_index s.words p) (slice_index s.words (let_go_word z p)) i (f.status p) shown (f.slots p low)).3

  pub reclaimed : Folds x z s5 t r
  reclaimed = record {
    wide = length-set s.words (let_go_word z p) 0 ∙ f.wide;
    tall = f.tall;
    homes = f.homes;
    views = map-set (λ q. q.view) s.views id o5 ∙ (ap (λ vs. set vs id o.view) f.views ∙ set_again t.views id o.view (view_at x z s t r f id o at));
    rest = λ k l. get_or-set_other s.words (let_go_word z p) (z.slots + k) 0 0 (λ e. omega (arith, e, l)) ∙ f.rest k l;
    status = status5;
    slots = slots5;
    others = λ i l. ⊎_elim
        (λ e. dite (ℕ_discrete (slot_of z i) p) (λ h. inr (unused5 i e h)) (λ ne. inl (status_else f.status p (Dirty id) (slot_of z i) ne ∙ e)))
        (λ h. inr h)
        (f.others i l);
    own = own_after z s.views f.status status5 id o5 f.own
        (λ j q ne. (
          (λ e. dite (ℕ_discrete q p) (λ h. absurd (not_dirty j (ap f.status (sym h) ∙ e))) (λ h. status_else f.status p (Dirty id) q h ∙ e)),
          (λ e. dite (ℕ_discrete q p) (λ h. absurd (not_free j (ap f.status (sym h) ∙ e))) (λ h. status_else f.status p (Dirty id) q h ∙ e)),
        ))
        (let w = f.own id o at in record {
          dirty_is = λ q h. ⊎_elim
              (λ e. (subst (λ k. k < z.slots) (sym e) low, status_here f.status p (Dirty id) q e))
              (λ had. let k = w.dirty_is q had in (k.0, dite (ℕ_discrete q p) (λ e. status_here f.status p (Dirty id) q e) (λ ne. status_else f.status p (Dirty id) q ne ∙ k.1)))
              (one_more o.dirty p q h);
          free_is = λ q h. let k = w.free_is q h in (k.0, dite (ℕ_discrete q p) (λ e. absurd (not_free id (ap f.status (sym e) ∙ k.1))) (λ ne. status_else f.status p (Dirty id) q ne ∙ k.1));
        });
    owned = λ q l. dite (ℕ_discrete q p)
        (λ e. subst (HasOwner s5.views q) (sym (status_here f.status p (Dirty id) q e)) (o5, set_here s.views id o5 (at_inside s.views id o at), ap (λ n. has_number (p ∷ o.dirty) n) e ∙ has_first o.dirty p))
        (λ ne. subst (HasOwner s5.views q) (sym (status_else f.status p (Dirty id) q ne)) (owned_after s.views id o o5 q (f.status q) at (has_more o.dirty p q) (λ h. h) (f.owned q l)));
    whole = λ e. absurd (cc);
  }

-- a seat has looked at a slot that wasn't to be had
looks : {S V : Type 0} (x : Virtual S V) (z : Sizes) (s : State S (Own V)) (t : State S V) (r : x.holds t) (f : Folds x z s t r) (id : ℕ) (o : Own V) (at : get_elem? s.views id ≡ some o)
    (all : List ℕ) → Folds x z (record { words = s.words; homes = s.homes; views = set s.views id (record { view = o.view; dirty = o.dirty; free = o.free; looked = all }) }) t r
looks {S} {V} x z s t r f id o at all =
    let o' : Own V = record { view = o.view; dirty = o.dirty; free = o.free; looked = all } in record {
      wide = f.wide;
      tall = f.tall;
      homes = f.homes;
      views = map-set (λ q. q.view) s.views id o' ∙ (ap (λ vs. set vs id o.view) f.views ∙ set_again t.views id o.view (view_at x z s t r f id o at));
      rest = f.rest;
      status = f.status;
      slots = f.slots;
      others = f.others;
      own = own_after z s.views f.status f.status id o' f.own (λ j q ne. ((λ e. e), (λ e. e))) (let w = f.own id o at in record { dirty_is = w.dirty_is; free_is = w.free_is });
      owned = λ q l. owned_after s.views id o o' q (f.status q) at (λ h. h) (λ h. h) (f.owned q l);
      whole = f.whole;
    }

-- a slot that both sides have let go is taken
module _ {S V : Type 0} (x : Virtual S V) (z : Sizes) (sizes : AreSizes z) (g : Known x) (id p : ℕ) (o : Own V) (c : List (ℕ × S)) (same : (t : State S V) (r : x.holds t) → g t r t r)
    (reuse : z.reuses ≡ true) (low : p < z.slots) (s : State S (Own V)) (l : Lasting x z s) (at : get_elem? s.views id ≡ some o) where
  abbrev found5 : ℕ
  found5 = slice_index s.words (let_go_word z p)

  abbrev hit5 : Own V
  hit5 = record { view = o.view; dirty = p ∷ o.dirty; free = o.free; looked = o.looked }

  abbrev miss5 : Own V
  miss5 = record { view = o.view; dirty = o.dirty; free = o.free; looked = p ∷ o.looked }

  abbrev Res5 : Bool → Type 0
  Res5 b = (w : Own V) × (a : Act S) × Valid s.homes c a × ((l' : Lasting x z (stepped s (let_go_word z p) (either b 0 found5) id c w a)) × g l.0 l.1 l'.0 l'.1) ×
      MatchBool b (◌≡◌ {A = Me S (Own V)} (w, carried_after c a) (hit5, c)) (◌≡◌ {A = Me S (Own V)} (w, carried_after c a) (miss5, c))

  abbrev After5 : List ℕ → List (Own V) → Type 0
  After5 ws vs = (l' : Lasting x z (record { words = ws; homes = s.homes; views = vs })) × g l.0 l.1 l'.0 l'.1

  by5 : (b : Bool) → eqb found5 3 ≡ b → Res5 b
  by5 true e = (hit5, keeps, tt, ((l.0, l.1, reclaimed x z sizes s l.0 l.1 l.2 id o at p reuse low (eqb-true found5 3 e)), same l.0 l.1), refl)
  by5 false e =
      let stay : After5 s.words (set s.views id miss5) = ((l.0, l.1, looks x z s l.0 l.1 l.2 id o at (p ∷ o.looked)), same l.0 l.1) in
      (miss5, keeps, tt, subst (λ ws. After5 ws (set s.views id miss5)) (sym (set-get_or s.words (let_go_word z p) 0)) stay, refl)

  pub reclaim_by : Res5 (eqb found5 3)
  reclaim_by = by5 (eqb found5 3) refl

pub reclaims : {S V : Type 0} (x : Virtual S V) (z : Sizes) → AreSizes z → Reclaims x z
reclaims {S} {V} x z sizes g slots id p o c same reuse low s l deep at small = reclaim_by x z sizes g id p o c same reuse low s l at

-- a step by which a seat empties the word of a slot that it has taken
module _ {S V : Type 0} (x : Virtual S V) (z : Sizes) (sizes : AreSizes z) (s : State S (Own V)) (t : State S V) (r : x.holds t) (f : Folds x z s t r)
    (id : ℕ) (o : Own V) (at : get_elem? s.views id ≡ some o) (p : ℕ) (has : has_number o.dirty p ≡ true) where
  abbrev o6 : Own V
  o6 = record { view = o.view; dirty = without_number o.dirty p; free = p ∷ o.free; looked = o.looked }

  abbrev s6 : State S (Own V)
  s6 = record { words = set s.words p 0; homes = s.homes; views = set s.views id o6 }

  abbrev status6 : ℕ → Status
  status6 = status_at f.status p (Free id)

  low6 : p < z.slots
  low6 = ((f.own id o at).dirty_is p has).0

  is6 : f.status p ≡ Dirty id
  is6 = ((f.own id o at).dirty_is p has).1

  slots6 : (q : ℕ) → q < z.slots → SlotSays x z of_none t r q (slice_index s6.words q) (slice_index s6.words (let_go_word z q)) (status6 q)
  slots6 q l =
      let bits : slice_index s6.words (let_go_word z q) ≡ slice_index s.words (let_go_word z q) = get_or-set_other s.words p (let_go_word z q) 0 0 (λ e. let h = low6 in omega (arith, e, h)) in
      dite (ℕ_discrete q p)
      (λ e. subst (λ y. SlotSays x z of_none t r q (slice_index s6.words q) (slice_index s6.words (let_go_word z q)) y) (sym (status_here f.status p (Free id) q e)) (
        bits ∙ subst (λ y. SlotSays x z of_none t r q (slice_index s.words q) (slice_index s.words (let_go_word z q)) y) (ap f.status e ∙ is6) (f.slots q l),
        get_or-set_at s.words p q 0 e (let w = f.wide in let h = low6 in omega (arith, w, h)),
      ))
      (λ ne. let word : slice_index s6.words q ≡ slice_index s.words q = get_or-set_other s.words p q 0 0 ne in
      subst (λ y. SlotSays x z of_none t r q (slice_index s6.words q) (slice_index s6.words (let_go_word z q)) y) (sym (status_else f.status p (Free id) q ne))
      (subst (λ k. SlotSays x z of_none t r q k (slice_index s6.words (let_go_word z q)) (f.status q)) (sym word)
      (subst (λ k. SlotSays x z of_none t r q (slice_index s.words q) k (f.status q)) (sym bits) (f.slots q l))))

  not_shown : (i : ℕ) → f.status p ≡ Shows i → ⊥
  not_shown i e = let h = sym e ∙ is6 in cc

  not_freed : (j : ℕ) → f.status p ≡ Free j → ⊥
  not_freed j e = let h = sym e ∙ is6 in cc

  not_others : (j : ℕ) → j ≢ id → f.status p ≡ Dirty j → ⊥
  not_others j ne e = let h = sym e ∙ is6 in ne (cc)

  pub emptied : Folds x z s6 t r
  emptied = record {
    wide = length-set s.words p 0 ∙ f.wide;
    tall = f.tall;
    homes = f.homes;
    views = map-set (λ q. q.view) s.views id o6 ∙ (ap (λ vs. set vs id o.view) f.views ∙ set_again t.views id o.view (view_at x z s t r f id o at));
    rest = λ k l. get_or-set_other s.words p (z.slots + k) 0 0 (λ e. let h = low6 in omega (arith, e, h)) ∙ f.rest k l;
    status = status6;
    slots = slots6;
    others = λ i l. ⊎_elim
        (λ e. inl (status_else f.status p (Free id) (slot_of z i) (λ h. not_shown i (ap f.status (sym h) ∙ e)) ∙ e))
        (λ h. inr h)
        (f.others i l);
    own = own_after z s.views f.status status6 id o6 f.own
        (λ j q ne. (
          (λ e. status_else f.status p (Free id) q (λ h. not_others j ne (ap f.status (sym h) ∙ e)) ∙ e),
          (λ e. status_else f.status p (Free id) q (λ h. not_freed j (ap f.status (sym h) ∙ e)) ∙ e),
        ))
        (let w = f.own id o at in record {
          dirty_is = λ q h. let there = still_there o.dirty p q h in let k = w.dirty_is q there.1 in (k.0, status_else f.status p (Free id) q there.0 ∙ k.1);
          free_is = λ q h. ⊎_elim
              (λ e. (subst (λ k. k < z.slots) (sym e) low6, status_here f.status p (Free id) q e))
              (λ had. let k = w.free_is q had in (k.0, status_else f.status p (Free id) q (λ e. not_freed id (ap f.status (sym e) ∙ k.1)) ∙ k.1))
              (one_more o.free p q h);
        });
    owned = λ q l. dite (ℕ_discrete q p)
        (λ e. subst (HasOwner s6.views q) (sym (status_here f.status p (Free id) q e)) (o6, set_here s.views id o6 (at_inside s.views id o at), ap (λ n. has_number (p ∷ o.free) n) e ∙ has_first o.free p))
        (λ ne. subst (HasOwner s6.views q) (sym (status_else f.status p (Free id) q ne)) (owned_after s.views id o o6 q (f.status q) at (λ h. without_other o.dirty p q ne ∙ h) (has_more o.free p q) (f.owned q l)));
    whole = λ e. absurd (let h = sym ((f.whole e).shows p low6) ∙ is6 in cc);
  }

-- the word of a slot that was taken is emptied
pub empties : {S V : Type 0} (x : Virtual S V) (z : Sizes) → AreSizes z → Empties x z
empties {S} {V} x z sizes g slots id p o c same has s l deep at small = (
  record { view = o.view; dirty = without_number o.dirty p; free = p ∷ o.free; looked = o.looked },
  keeps,
  tt,
  ((l.0, l.1, emptied x z sizes s l.0 l.1 l.2 id o at p has), same l.0 l.1),
  refl,
)

-- a claim of a number whose slot is free, which found the count that it was for
module _ {S V : Type 0} (x : Virtual S V) (z : Sizes) (laws : Laws x z) (sizes : AreSizes z) (s : State S (Own V)) (t : State S V) (r : x.holds t) (f : Folds x z s t r)
    (id : ℕ) (o : Own V) (c : List (ℕ × S)) (at : get_elem? s.views id ≡ some o) (v : V) (a : Act S) (n : ℕ) (up : slice_index t.words z.limit ≤ n) (below : n < z.limit)
    (has : has_number o.free (slot_of z n) ≡ true) (r' : x.holds (stepped t (z.limit + 0) (n + 1) id c v a))
    (keep : (b : Bool) (i : ℕ) → i < slice_index t.words z.limit → x.gone t r b i → x.gone (stepped t (z.limit + 0) (n + 1) id c v a) r' b i)
    (skip : (b : Bool) (i : ℕ) → slice_index t.words z.limit ≤ i → i < n → x.gone (stepped t (z.limit + 0) (n + 1) id c v a) r' b i)
    (lose : z.reuses ≡ true → (b : Bool) (i : ℕ) → i < slice_index t.words z.limit → x.gone (stepped t (z.limit + 0) (n + 1) id c v a) r' b i → x.gone t r b i)
    (held : (b : Bool) → x.gone (stepped t (z.limit + 0) (n + 1) id c v a) r' b n → ⊥) where
  abbrev t7 : State S V
  t7 = stepped t (z.limit + 0) (n + 1) id c v a

  abbrev p7 : ℕ
  p7 = slot_of z n

  abbrev o7 : Own V
  o7 = claimed_own z n o v

  abbrev s7 : State S (Own V)
  s7 = stepped s (z.slots + 0) (n + 1) id c o7 a

  abbrev status7 : ℕ → Status
  status7 = status_at f.status p7 (Shows n)

  low7 : p7 < z.slots
  low7 = ((f.own id o at).free_is p7 has).0

  is7 : f.status p7 ≡ Free id
  is7 = ((f.own id o at).free_is p7 has).1

  count7 : slice_index t7.words z.limit ≡ n + 1
  count7 = get_or-set_at t.words (z.limit + 0) z.limit (n + 1) (omega arith) (let w = f.tall in let h = sizes.count in omega (arith, w, h))

  -- an end that was nowhere still is, but for those of the number that is claimed
  gone7 : (b : Bool) (i : ℕ) → i ≢ n → x.gone t r b i → x.gone t7 r' b i
  gone7 b i ne h = dite (dec_lt i (slice_index t.words z.limit)) (λ l. keep b i l h)
      (λ far. dite (dec_lt i n) (λ l. skip b i (omega (arith, far)) l) (λ beyond. laws.unclaimed t7 r' b i (let e = count7 in omega (arith, beyond, ne, e))))

  word7 : (i : ℕ) → i < z.limit → slice_index t7.words i ≡ slice_index t.words i
  word7 i l = get_or-set_other t.words (z.limit + 0) i (n + 1) 0 (λ e. omega (arith, e, l))

  slots7 : (q : ℕ) → q < z.slots → SlotSays x z of_none t7 r' q (slice_index s7.words q) (slice_index s7.words (let_go_word z q)) (status7 q)
  slots7 q l =
      let word : slice_index s7.words q ≡ slice_index s.words q = get_or-set_other s.words (z.slots + 0) q (n + 1) 0 (λ e. omega (arith, e, l)) in
      let bits : slice_index s7.words (let_go_word z q) ≡ slice_index s.words (let_go_word z q) = get_or-set_other s.words (z.slots + 0) (let_go_word z q) (n + 1) 0 (λ e. let h = sizes.count in omega (arith, e, h)) in
      subst (λ k. SlotSays x z of_none t7 r' q k (slice_index s7.words (let_go_word z q)) (status7 q)) (sym word)
      (subst (λ k. SlotSays x z of_none t7 r' q (slice_index s.words q) k (status7 q)) (sym bits)
      (dite (ℕ_discrete q p7)
      (λ e. let empty : (slice_index s.words (let_go_word z q) ≡ 0) × (slice_index s.words q ≡ 0) = subst (λ y. SlotSays x z of_none t r q (slice_index s.words q) (slice_index s.words (let_go_word z q)) y) (ap f.status e ∙ is7) (f.slots q l) in
      subst (λ y. SlotSays x z of_none t7 r' q (slice_index s.words q) (slice_index s.words (let_go_word z q)) y) (sym (status_here f.status p7 (Shows n) q e)) (
        sym e,
        below,
        empty.1 ∙ sym (word7 n below ∙ laws.empty t r n up below),
        subst (λ k. LetGo x t7 r' k n) (sym empty.0) tt,
        λ again other. subst (λ k. NotLetGo x t7 r' k n) (sym empty.0) (held false, held true),
      ))
      (λ ne. subst (λ y. SlotSays x z of_none t7 r' q (slice_index s.words q) (slice_index s.words (let_go_word z q)) y) (sym (status_else f.status p7 (Shows n) q ne))
      (says_still x z of_none t t7 r r' q (slice_index s.words q) (slice_index s.words (let_go_word z q)) (f.status q) (λ i e l1. word7 i l1)
      (λ b i e. gone7 b i (λ h. ne (sym (shows_slot x z of_none t r q (slice_index s.words q) (slice_index s.words (let_go_word z q)) i (f.status q) e (f.slots q l)).0 ∙ ap (slot_of z) h)))
      (λ again b i e other. lost_stays x z laws t t7 r r' (lose again) b i)
      (f.slots q l)))))

  not_shown7 : (i : ℕ) → f.status p7 ≡ Shows i → ⊥
  not_shown7 i e = let h = sym e ∙ is7 in cc

  not_dirty7 : (j : ℕ) → f.status p7 ≡ Dirty j → ⊥
  not_dirty7 j e = let h = sym e ∙ is7 in cc

  not_others7 : (j : ℕ) → j ≢ id → f.status p7 ≡ Free j → ⊥
  not_others7 j ne e = let h = sym e ∙ is7 in ne (cc)

  others7 : (i : ℕ) → i < slice_index t7.words z.limit → (status7 (slot_of z i) ≡ Shows i) ⊎ Unused x t7 r' i
  others7 i l = dite (ℕ_discrete i n)
      (λ e. inl (status_here f.status p7 (Shows n) (slot_of z i) (ap (slot_of z) e) ∙ ap Shows (sym e)))
      (λ ne. dite (dec_lt i (slice_index t.words z.limit))
      (λ was. ⊎_elim
      (λ e. inl (status_else f.status p7 (Shows n) (slot_of z i) (λ h. not_shown7 i (ap f.status (sym h) ∙ e)) ∙ e))
      (λ h. inr (gone7 false i ne h.0, gone7 true i ne h.1))
      (f.others i was))
      (λ far. let under : i < n = let e = count7 in omega (arith, l, ne, e) in inr (skip false i (omega (arith, far)) under, skip true i (omega (arith, far)) under)))

  rest7 : (k : ℕ) → k < z.others → slice_index s7.words (z.slots + k) ≡ slice_index t7.words (z.limit + k)
  rest7 k l = dite (ℕ_discrete k 0)
      (λ e. get_or-set_at s.words (z.slots + 0) (z.slots + k) (n + 1) (omega (arith, e)) (let w = f.wide in let h = sizes.count in omega (arith, w, h)) ∙ sym (get_or-set_at t.words (z.limit + 0) (z.limit + k) (n + 1) (omega (arith, e)) (let w = f.tall in let h = sizes.count in omega (arith, w, h))))
      (λ ne. get_or-set_other s.words (z.slots + 0) (z.slots + k) (n + 1) 0 (λ e. ne (omega (arith, e))) ∙ (f.rest k l ∙ sym (get_or-set_other t.words (z.limit + 0) (z.limit + k) (n + 1) 0 (λ e. ne (omega (arith, e))))))

  pub claimed_folds : Folds x z s7 t7 r'
  claimed_folds = record {
    wide = length-set s.words (z.slots + 0) (n + 1) ∙ f.wide;
    tall = length-set t.words (z.limit + 0) (n + 1) ∙ f.tall;
    homes = ap (λ hs. homes_after hs c a) f.homes;
    views = map-set (λ q. q.view) s.views id o7 ∙ ap (λ vs. set vs id v) f.views;
    rest = rest7;
    status = status7;
    slots = slots7;
    others = others7;
    own = own_after z s.views f.status status7 id o7 f.own
        (λ j q ne. (
          (λ e. status_else f.status p7 (Shows n) q (λ h. not_dirty7 j (ap f.status (sym h) ∙ e)) ∙ e),
          (λ e. status_else f.status p7 (Shows n) q (λ h. not_others7 j ne (ap f.status (sym h) ∙ e)) ∙ e),
        ))
        (let w = f.own id o at in record {
          dirty_is = λ q h. let k = w.dirty_is q h in (k.0, status_else f.status p7 (Shows n) q (λ e. not_dirty7 id (ap f.status (sym e) ∙ k.1)) ∙ k.1);
          free_is = λ q h. let there = still_there o.free p7 q h in let k = w.free_is q there.1 in (k.0, status_else f.status p7 (Shows n) q there.0 ∙ k.1);
        });
    owned = λ q l. dite (ℕ_discrete q p7)
        (λ e. subst (HasOwner s7.views q) (sym (status_here f.status p7 (Shows n) q e)) tt)
        (λ ne. subst (HasOwner s7.views q) (sym (status_else f.status p7 (Shows n) q ne)) (owned_after s.views id o o7 q (f.status q) at (λ h. h) (λ h. without_other o.free p7 q ne ∙ h) (f.owned q l)));
    whole = λ e. absurd (let h = sym ((f.whole e).shows p7 low7) ∙ is7 in cc);
  }

-- a claim of a number whose slot is free
module _ {S V : Type 0} (x : Virtual S V) (z : Sizes) (laws : Laws x z) (sizes : AreSizes z) (g h : Known x) (slots id count n : ℕ) (o : Own V) (c : List (ℕ × S))
    (hit : Me S V → Type 0) (miss : ℕ → Me S V → Type 0) (keep : Keeps x z g) (lose : LosesNone x z id o.view g) (skip : Skips x z g n) (take : Takes x id o.view g n) (stay : Keeps x z h) (stay_lose : LosesNone x z id o.view h) (up : count ≤ n) (below : n < z.limit) (has : has_number o.free (slot_of z n) ≡ true)
    (s : State S (Own V)) (l : Lasting x z s) (at : get_elem? s.views id ≡ some o) where
  abbrev old8 : ℕ
  old8 = slice_index l.0.words z.limit

  abbrev i8 : ℕ
  i8 = z.limit + 0

  at8 : get_elem? l.0.views id ≡ some o.view
  at8 = view_at x z s l.0 l.1 l.2 id o at

  -- what the step of the virtual table is for this number found and this outcome
  abbrev V8 : Bool → ℕ → Type 0
  V8 b m = (v : V) × (a : Act S) × Valid l.0.homes c a ×
      ((r' : x.holds (stepped l.0 i8 (either b (n + 1) m) id c v a)) × MatchBool b (g l.0 l.1 (stepped l.0 i8 (either b (n + 1) m) id c v a) r') (h l.0 l.1 (stepped l.0 i8 (either b (n + 1) m) id c v a) r')) ×
      MatchBool b (hit (v, carried_after c a)) (miss m (v, carried_after c a))

  abbrev L8 : Bool → ℕ → Type 0
  L8 b m = (w : Own V) × (a : Act S) × Valid s.homes c a ×
      ((l' : Lasting x z (stepped s (z.slots + 0) (either b (n + 1) m) id c w a)) × MatchBool b (g l.0 l.1 l'.0 l'.1) (h l.0 l.1 l'.0 l'.1)) ×
      ((w.dirty ≡ o.dirty) × (w.looked ≡ o.looked) × MatchBool b (hit (w.view, carried_after c a) × (w.free ≡ without_number o.free (slot_of z n))) (miss m (w.view, carried_after c a) × (w.free ≡ o.free)))

  pub folded8 : (b : Bool) (m : ℕ) → eqb m count ≡ b → old8 ≡ m → V8 b m → L8 b m
  folded8 true m e is st =
      let is_count : old8 ≡ count = is ∙ eqb-true m count e in
      let t' : State S V = stepped l.0 i8 (n + 1) id c st.0 st.1 in (
        claimed_own z n o st.0,
        st.1,
        subst (λ hs. Valid hs c st.1) (sym l.2.homes) st.2,
        (
          (
            t',
            st.3.0,
            claimed_folds x z laws sizes s l.0 l.1 l.2 id o c at st.0 st.1 n (omega (arith, up, is_count)) below has st.3.0 (keep l.0 l.1 t' st.3.0 st.3.1) (skip l.0 l.1 t' st.3.0 st.3.1)
                (λ again. lose again l.0 l.1 t' st.3.0 at8 st.3.1) (take l.0 l.1 t' st.3.0 at8 st.3.1),
          ),
          st.3.1,
        ),
        (refl, refl, (st.4, refl)),
      )
  folded8 false m e is st =
      let t' : State S V = stepped l.0 i8 m id c st.0 st.1 in
      let same : slice_index (set l.0.words i8 m) z.limit ≡ old8 = get_or-set_at l.0.words i8 z.limit m (omega arith) (let w = l.2.tall in let k = sizes.count in omega (arith, w, k)) ∙ sym is in (
        record { view = st.0; dirty = o.dirty; free = o.free; looked = o.looked },
        st.1,
        subst (λ hs. Valid hs c st.1) (sym l.2.homes) st.2,
        ((t', st.3.0, other_folds x z laws sizes s l.0 l.1 l.2 id o c at st.0 st.1 0 m (let k = sizes.count in omega (arith, k)) st.3.0 same (stay l.0 l.1 t' st.3.0 st.3.1) (λ again. stay_lose again l.0 l.1 t' st.3.0 at8 st.3.1)), st.3.1),
        (refl, refl, (st.4, refl)),
      )

pub claims : {S V : Type 0} (x : Virtual S V) (z : Sizes) → Laws x z → AreSizes z → Claims x z
claims {S} {V} x z laws sizes g h slots id count n o c hit miss keep lose skip take stay stay_lose up below has steps s l deep at small =
    let t = l.0 in
    let r = l.1 in
    let m : ℕ = slice_index s.words (z.slots + 0) in
    let i : ℕ = z.limit + 0 in
    let old : ℕ = slice_index t.words z.limit in
    let found : slice_index t.words i ≡ m = sym (l.2.rest 0 (let k = sizes.count in omega (arith, k))) in
    let here : z.limit ≡ i = omega arith in
    let is : old ≡ m = ap (slice_index t.words) here ∙ found in
    let Raw : ℕ → ℕ → Type 0 = λ k1 k2. (v : V) × (a : Act S) × Valid t.homes c a ×
    ((r' : x.holds (stepped t i (either (eqb k2 count) (n + 1) k2) id c v a)) ×
    MatchBool (eqb k1 count) (g t r (stepped t i (either (eqb k2 count) (n + 1) k2) id c v a) r') (h t r (stepped t i (either (eqb k2 count) (n + 1) k2) id c v a) r')) ×
    MatchBool (eqb k2 count) (hit (v, carried_after c a)) (miss k2 (v, carried_after c a)) in
    let raw : Raw old (slice_index t.words i) = steps t r (ap length (sym l.2.homes) ∙ deep) (view_at x z s t r l.2 id o at) (subst (λ k. k < 18446744073709551616) (sym found) small) in
    let st : Raw m m = subst (λ k. Raw k m) is (subst (λ k. Raw old k) found raw) in
    let done = folded8 x z laws sizes g h slots id count n o c hit miss keep lose skip take stay stay_lose up below has s l at (eqb m count) m refl is st in (
      done.0,
      done.1,
      done.2,
      (done.3.0, subst (λ k. MatchBool (eqb k count) (g t r done.3.0.0 done.3.0.1) (h t r done.3.0.0 done.3.0.1)) (sym is) done.3.1),
      done.4,
    )
