-- A claim where slots aren't used again: numbers are claimed in their order, and each has its slot.
use Rattle.std.specs.Prelude.{◌≡◌, ◌≢◌, ◌<◌, ◌+◌, ℕ, Bool, true, false, List, length, slice_index, refl, eqb}
use Rattle.std.proofs.Common.{arith, ap, ◌∙◌, sym, subst, inl, set, length-set, get_or-set_other, eqb-true}
use Rattle.std.proofs.lemmas.List.{map-set}
use Rattle.std.proofs.Math.Nat.{mod-eq_of_lt}
use prog.Atomic.{either}
use mathlib.Core.Option.{some}
use mathlib.Core.Logic.{dite}
use native.Mathlib.Decide.{ℕ_discrete, dec_lt}
use lib.ListN.{get_elem?}
use Rattle.atomic_table.specs.Table.{State, Act, Valid, stepped, carried_after, homes_after}
use Rattle.ipcz_slots.specs.declared.own.Own.{Own}
use Rattle.ipcz_slots.specs.Slots.{Virtual, Sizes, AreSizes, Laws, Folds, of_none, SlotSays, LetGo, Shows, slot_of, let_go_word}
use Rattle.ipcz_slots.specs.SlotKinds.{ClaimsInOrder}
use Rattle.ipcz_slots.proofs.Folding.{other_folds, says_still, view_at, own_after, owned_after, get_or-set_at, shows_slot}

-- a claim which found the count that it was for
module _ {S V : Type 0} (x : Virtual S V) (z : Sizes) (laws : Laws x z) (sizes : AreSizes z) (s : State S (Own V)) (t : State S V) (r : x.holds t) (f : Folds x z s t r)
    (id : ℕ) (o : Own V) (c : List (ℕ × S)) (at : get_elem? s.views id ≡ some o) (v : V) (a : Act S) (n : ℕ) (is : slice_index t.words z.limit ≡ n) (order : z.reuses ≡ false) (below : n < z.limit)
    (r' : x.holds (stepped t (z.limit + 0) (n + 1) id c v a))
    (keep : (b : Bool) (i : ℕ) → i < slice_index t.words z.limit → x.gone t r b i → x.gone (stepped t (z.limit + 0) (n + 1) id c v a) r' b i) where
  abbrev t1 : State S V
  t1 = stepped t (z.limit + 0) (n + 1) id c v a

  abbrev o1 : Own V
  o1 = record { view = v; dirty = o.dirty; free = o.free; looked = o.looked }

  abbrev s1 : State S (Own V)
  s1 = stepped s (z.slots + 0) (n + 1) id c o1 a

  count1 : slice_index t1.words z.limit ≡ n + 1
  count1 = get_or-set_at t.words (z.limit + 0) z.limit (n + 1) (omega arith) (let w = f.tall in let h = sizes.count in omega (arith, w, h))

  -- an end that was nowhere still is, but for those of the number that is claimed
  gone1 : (b : Bool) (i : ℕ) → i ≢ n → x.gone t r b i → x.gone t1 r' b i
  gone1 b i ne h = dite (dec_lt i n) (λ l. keep b i (omega (arith, l, is)) h) (λ far. laws.unclaimed t1 r' b i (let e = count1 in omega (arith, far, ne, e)))

  word1 : (i : ℕ) → i < z.limit → slice_index t1.words i ≡ slice_index t.words i
  word1 i l = get_or-set_other t.words (z.limit + 0) i (n + 1) 0 (λ e. omega (arith, e, l))

  bits1 : (p : ℕ) → slice_index s1.words (let_go_word z p) ≡ slice_index s.words (let_go_word z p)
  bits1 p = get_or-set_other s.words (z.slots + 0) (let_go_word z p) (n + 1) 0 (λ e. let h = sizes.count in omega (arith, e, h))

  slots1 : (p : ℕ) → p < z.slots → SlotSays x z of_none t1 r' p (slice_index s1.words p) (slice_index s1.words (let_go_word z p)) (f.status p)
  slots1 p l =
      let word : slice_index s1.words p ≡ slice_index s.words p = get_or-set_other s.words (z.slots + 0) p (n + 1) 0 (λ e. omega (arith, e, l)) in
      let shown : f.status p ≡ Shows p = (f.whole order).shows p l in
      subst (λ k. SlotSays x z of_none t1 r' p k (slice_index s1.words (let_go_word z p)) (f.status p)) (sym word)
      (subst (λ k. SlotSays x z of_none t1 r' p (slice_index s.words p) k (f.status p)) (sym (bits1 p))
      (dite (ℕ_discrete p n)
      (λ e.
      let was = shows_slot x z of_none t r p (slice_index s.words p) (slice_index s.words (let_go_word z p)) p (f.status p) shown (f.slots p l) in
      let none : slice_index s.words (let_go_word z p) ≡ 0 = (f.whole order).fresh p (omega (arith, e, is)) l in
      subst (λ y. SlotSays x z of_none t1 r' p (slice_index s.words p) (slice_index s.words (let_go_word z p)) y) (sym shown) (was.0, was.1, was.2 ∙ sym (word1 p was.1), subst (λ k. LetGo x t1 r' k p) (sym none) tt, (λ again other. absurd (cc))))
      (λ ne. says_still x z of_none t t1 r r' p (slice_index s.words p) (slice_index s.words (let_go_word z p)) (f.status p) (λ i e l1. word1 i l1)
      (λ b i e. gone1 b i (λ h. ne ((let k = sym shown ∙ e in cc) ∙ h)))
      (λ again b i e other g. absurd (cc))
      (f.slots p l))))

  rest1 : (k : ℕ) → k < z.others → slice_index s1.words (z.slots + k) ≡ slice_index t1.words (z.limit + k)
  rest1 k l = dite (ℕ_discrete k 0)
      (λ e. get_or-set_at s.words (z.slots + 0) (z.slots + k) (n + 1) (omega (arith, e)) (let w = f.wide in let h = sizes.count in omega (arith, w, h)) ∙ sym (get_or-set_at t.words (z.limit + 0) (z.limit + k) (n + 1) (omega (arith, e)) (let w = f.tall in let h = sizes.count in omega (arith, w, h))))
      (λ ne. get_or-set_other s.words (z.slots + 0) (z.slots + k) (n + 1) 0 (λ e. ne (omega (arith, e))) ∙ (f.rest k l ∙ sym (get_or-set_other t.words (z.limit + 0) (z.limit + k) (n + 1) 0 (λ e. ne (omega (arith, e))))))

  shows1 : (i : ℕ) → i < slice_index t1.words z.limit → f.status (slot_of z i) ≡ Shows i
  shows1 i l =
      let low : i < z.slots = let same = sizes.whole order in let e = count1 in omega (arith, l, e, same, below) in
      let own : slot_of z i ≡ i = mod-eq_of_lt low in
      ap f.status own ∙ (f.whole order).shows i low

  pub ordered_folds : Folds x z s1 t1 r'
  ordered_folds = record {
    wide = length-set s.words (z.slots + 0) (n + 1) ∙ f.wide;
    tall = length-set t.words (z.limit + 0) (n + 1) ∙ f.tall;
    homes = ap (λ hs. homes_after hs c a) f.homes;
    views = map-set (λ q. q.view) s.views id o1 ∙ ap (λ vs. set vs id v) f.views;
    rest = rest1;
    status = f.status;
    slots = slots1;
    others = λ i l. inl (shows1 i l);
    own = own_after z s.views f.status f.status id o1 f.own (λ j1 p ne. ((λ e. e), (λ e. e))) (let w = f.own id o at in record { dirty_is = w.dirty_is; free_is = w.free_is });
    owned = λ p l. owned_after s.views id o o1 p (f.status p) at (λ h. h) (λ h. h) (f.owned p l);
    whole = λ e. record { shows = (f.whole order).shows; fresh = λ p far l. bits1 p ∙ (f.whole order).fresh p (let h = count1 in omega (arith, far, h, is)) l };
  }

-- a claim, by whether it found the count
ordered_by : {S V : Type 0} (x : Virtual S V) (z : Sizes) (laws : Laws x z) (sizes : AreSizes z) (s : State S (Own V)) (t : State S V) (r : x.holds t) (f : Folds x z s t r)
    (id : ℕ) (o : Own V) (c : List (ℕ × S)) (at : get_elem? s.views id ≡ some o) (v : V) (a : Act S) (count m : ℕ) (order : z.reuses ≡ false) (below : count < z.limit) (is : slice_index t.words z.limit ≡ m)
    (b : Bool) → eqb m count ≡ b → (r' : x.holds (stepped t (z.limit + 0) (either b (count + 1) m) id c v a)) →
    ((d : Bool) (i : ℕ) → i < slice_index t.words z.limit → x.gone t r d i → x.gone (stepped t (z.limit + 0) (either b (count + 1) m) id c v a) r' d i) →
    Folds x z (stepped s (z.slots + 0) (either b (count + 1) m) id c (record { view = v; dirty = o.dirty; free = o.free; looked = o.looked }) a) (stepped t (z.limit + 0) (either b (count + 1) m) id c v a) r'
ordered_by x z laws sizes s t r f id o c at v a count m order below is true e r' keep = ordered_folds x z laws sizes s t r f id o c at v a count (is ∙ eqb-true m count e) order below r' keep
ordered_by x z laws sizes s t r f id o c at v a count m order below is false e r' keep =
    other_folds x z laws sizes s t r f id o c at v a 0 m (let k = sizes.count in omega (arith, k)) r'
    (get_or-set_at t.words (z.limit + 0) z.limit m (omega arith) (let w = f.tall in let k = sizes.count in omega (arith, w, k)) ∙ sym is) keep (λ again. absurd (cc))

pub claims_in_order : {S V : Type 0} (x : Virtual S V) (z : Sizes) → Laws x z → AreSizes z → ClaimsInOrder x z
claims_in_order {S} {V} x z laws sizes g slots id count o c told keep order below steps s l deep at small =
    let t = l.0 in
    let r = l.1 in
    let fold = l.2 in
    let i : ℕ = z.limit + 0 in
    let n : ℕ = slice_index s.words (z.slots + 0) in
    let e : slice_index t.words i ≡ n = sym (fold.rest 0 (let k = sizes.count in omega (arith, k))) in
    let f : ℕ → ℕ = λ m. either (eqb m count) (count + 1) m in
    let Res : ℕ → Type 0 = λ k. (v : V) × (a : Act S) × Valid t.homes c a × ((r' : x.holds (stepped t i (f k) id c v a)) × g t r (stepped t i (f k) id c v a) r') × told k (v, carried_after c a) in
    let st : Res n = subst Res e (steps t r (ap length (sym fold.homes) ∙ deep) (view_at x z s t r fold id o at) (subst (λ k. k < 18446744073709551616) (sym e) small)) in
    let is : slice_index t.words z.limit ≡ n = ap (slice_index t.words) (omega arith) ∙ e in
    let t' : State S V = stepped t i (f n) id c st.0 st.1 in (
      record { view = st.0; dirty = o.dirty; free = o.free; looked = o.looked },
      st.1,
      subst (λ hs. Valid hs c st.1) (sym fold.homes) st.2,
      ((t', st.3.0, ordered_by x z laws sizes s t r fold id o c at st.0 st.1 count n order below is (eqb n count) refl st.3.0 (keep t r t' st.3.0 st.3.1)), st.3.1),
      (st.4, refl, refl, refl),
    )
