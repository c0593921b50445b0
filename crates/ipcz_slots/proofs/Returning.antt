-- A slot that a seat has is given back.
use Rattle.std.specs.Prelude.{◌≡◌, ◌≢◌, ◌<◌, ◌⊎◌, ◌+◌, ℕ, slice_index, refl}
use Rattle.std.proofs.Common.{arith, ap, ◌∙◌, sym, subst, inl, inr, ⊎_elim, set, length-set, get_or-set_other}
use Rattle.std.proofs.lemmas.List.{map-set}
use mathlib.Core.Option.{some}
use mathlib.Core.Logic.{dite}
use native.Mathlib.Decide.{ℕ_discrete}
use lib.ListN.{get_elem?}
use Rattle.atomic_table.specs.Table.{State, keeps}
use Rattle.atomic_table.proofs.Lists.{set_again}
use Rattle.ipcz_slots.specs.declared.own.Own.{Own}
use Rattle.ipcz_slots.specs.Slots.{Virtual, Sizes, Folds, of_none, HasOwner, SlotSays, Status, Shows, Dirty, Free, Spare, slot_of, let_go_word, without_number}
use Rattle.ipcz_slots.specs.SlotKinds.{Returns}
use Rattle.ipcz_slots.proofs.Folding.{view_at, own_after, owned_after, get_or-set_at}
use Rattle.ipcz_slots.proofs.Reusing.{status_at, status_here, status_else, still_there, without_other}

module _ {S V : Type 0} (x : Virtual S V) (z : Sizes) (s : State S (Own V)) (t : State S V) (r : x.holds t) (f : Folds x z s t r)
    (id : ℕ) (o : Own V) (at : get_elem? s.views id ≡ some o) (p : ℕ) (low : p < z.slots) (is : (f.status p ≡ Dirty id) ⊎ (f.status p ≡ Free id)) where
  abbrev o1 : Own V
  o1 = record { view = o.view; dirty = without_number o.dirty p; free = without_number o.free p; looked = o.looked }

  abbrev s1 : State S (Own V)
  s1 = record { words = set s.words (let_go_word z p) 3; homes = s.homes; views = set s.views id o1 }

  abbrev status1 : ℕ → Status
  status1 = status_at f.status p Spare

  not_shown : (i : ℕ) → f.status p ≡ Shows i → ⊥
  not_shown i e = ⊎_elim (λ d. let h = sym e ∙ d in cc) (λ d. let h = sym e ∙ d in cc) is

  not_dirty : (j : ℕ) → j ≢ id → f.status p ≡ Dirty j → ⊥
  not_dirty j ne e = ⊎_elim (λ d. let h = sym e ∙ d in ne (cc)) (λ d. let h = sym e ∙ d in cc) is

  not_free : (j : ℕ) → j ≢ id → f.status p ≡ Free j → ⊥
  not_free j ne e = ⊎_elim (λ d. let h = sym e ∙ d in cc) (λ d. let h = sym e ∙ d in ne (cc)) is

  slots1 : (q : ℕ) → q < z.slots → SlotSays x z of_none t r q (slice_index s1.words q) (slice_index s1.words (let_go_word z q)) (status1 q)
  slots1 q l =
      let word : slice_index s1.words q ≡ slice_index s.words q = get_or-set_other s.words (let_go_word z p) q 3 0 (λ e. omega (arith, e, l)) in
      dite (ℕ_discrete q p)
      (λ e. subst (λ y. SlotSays x z of_none t r q (slice_index s1.words q) (slice_index s1.words (let_go_word z q)) y) (sym (status_here f.status p Spare q e))
      (get_or-set_at s.words (let_go_word z p) (let_go_word z q) 3 (omega (arith, e)) (let w = f.wide in omega (arith, w, low))))
      (λ ne. let bits : slice_index s1.words (let_go_word z q) ≡ slice_index s.words (let_go_word z q) = get_or-set_other s.words (let_go_word z p) (let_go_word z q) 3 0 (λ e. ne (omega (arith, e))) in
      subst (λ y. SlotSays x z of_none t r q (slice_index s1.words q) (slice_index s1.words (let_go_word z q)) y) (sym (status_else f.status p Spare q ne))
      (subst (λ k. SlotSays x z of_none t r q k (slice_index s1.words (let_go_word z q)) (f.status q)) (sym word)
      (subst (λ k. SlotSays x z of_none t r q (slice_index s.words q) k (f.status q)) (sym bits) (f.slots q l))))

  pub returned : Folds x z s1 t r
  returned = record {
    wide = length-set s.words (let_go_word z p) 3 ∙ f.wide;
    tall = f.tall;
    homes = f.homes;
    views = map-set (λ q. q.view) s.views id o1 ∙ (ap (λ vs. set vs id o.view) f.views ∙ set_again t.views id o.view (view_at x z s t r f id o at));
    rest = λ k l. get_or-set_other s.words (let_go_word z p) (z.slots + k) 3 0 (λ e. omega (arith, e, l)) ∙ f.rest k l;
    status = status1;
    slots = slots1;
    others = λ i l. ⊎_elim
        (λ e. inl (status_else f.status p Spare (slot_of z i) (λ h. not_shown i (ap f.status (sym h) ∙ e)) ∙ e))
        (λ h. inr h)
        (f.others i l);
    own = own_after z s.views f.status status1 id o1 f.own
        (λ j q ne. (
          (λ e. status_else f.status p Spare q (λ h. not_dirty j ne (ap f.status (sym h) ∙ e)) ∙ e),
          (λ e. status_else f.status p Spare q (λ h. not_free j ne (ap f.status (sym h) ∙ e)) ∙ e),
        ))
        (let w = f.own id o at in record {
          dirty_is = λ q h. let there = still_there o.dirty p q h in let k = w.dirty_is q there.1 in (k.0, status_else f.status p Spare q there.0 ∙ k.1);
          free_is = λ q h. let there = still_there o.free p q h in let k = w.free_is q there.1 in (k.0, status_else f.status p Spare q there.0 ∙ k.1);
        });
    owned = λ q l. dite (ℕ_discrete q p)
        (λ e. subst (HasOwner s1.views q) (sym (status_here f.status p Spare q e)) tt)
        (λ ne. subst (HasOwner s1.views q) (sym (status_else f.status p Spare q ne)) (owned_after s.views id o o1 q (f.status q) at
        (λ h. without_other o.dirty p q ne ∙ h) (λ h. without_other o.free p q ne ∙ h) (f.owned q l)));
    whole = λ e. absurd (not_shown p ((f.whole e).shows p low));
  }

pub returns_slots : {S V : Type 0} (x : Virtual S V) (z : Sizes) → Returns x z
returns_slots {S} {V} x z g slots id p o c same has s l deep at small =
    let w = l.2.own id o at in
    let own : (p < z.slots) × ((l.2.status p ≡ Dirty id) ⊎ (l.2.status p ≡ Free id)) = ⊎_elim (λ h. let k = w.dirty_is p h in (k.0, inl k.1)) (λ h. let k = w.free_is p h in (k.0, inr k.1)) has in (
      record { view = o.view; dirty = without_number o.dirty p; free = without_number o.free p; looked = o.looked },
      keeps,
      tt,
      ((l.0, l.1, returned x z s l.0 l.1 l.2 id o at p own.0 own.1), same l.0 l.1),
      refl,
    )
