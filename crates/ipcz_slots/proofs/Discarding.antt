-- An act by which a side lets its end of one number go, and a second number, which the node had alone, is used no more.
use Rattle.std.specs.Prelude.{◌≡◌, ◌≢◌, ◌<◌, ◌⊎◌, ℕ, zero, suc, Bool, true, false, List, [], ◌∷◌, map, length, slice_index, refl, bit_or}
use Rattle.std.proofs.Common.{arith, ap, ◌∙◌, sym, subst, inl, inr, ⊎_elim, set, get_or-set_other}
use Rattle.std.proofs.lemmas.List.{map-set, set-get_or}
use Rattle.std.proofs.Math.Nat.{mod-lt}
use mathlib.Core.Option.{some}
use mathlib.Core.Logic.{dite}
use native.Mathlib.Decide.{ℕ_discrete}
use lib.ListN.{get_elem?}
use Rattle.atomic_table.specs.Table.{State, Act, Valid, stepped, carried_after, homes_after}
use Rattle.atomic_table.proofs.Lists.{set_here}
use Rattle.ipcz_slots.specs.declared.own.Own.{Own}
use Rattle.ipcz_slots.specs.Slots.{Virtual, Sizes, AreSizes, Lasting, Laws, Unused, FoldsBut, Folds, of_none, HasOwner, SlotSays, LetGo, Status, Shows, Dirty, Free, Spare, slot_of, let_go_word, has_number}
use Rattle.ipcz_slots.specs.SlotKinds.{LetsGoWhole, side_bit}
use Rattle.ipcz_slots.proofs.Folding.{view_at, own_after, owned_after, at_inside, shows_slot, has_shows}
use Rattle.ipcz_slots.proofs.Letting.{let_go_folds, let_go_status}
use Rattle.ipcz_slots.proofs.Reusing.{status_at, status_here, status_else, one_more, has_first, has_more}

-- of a number whose ends both are somewhere nobody has let go
nobody : {S V : Type 0} (x : Virtual S V) (t : State S V) (r : x.holds t) (n j : ℕ) → ((b : Bool) → x.gone t r b j → ⊥) → LetGo x t r n j → n ≡ 0
nobody x t r zero j k h = refl
nobody x t r (suc zero) j k h = absurd (k false h)
nobody x t r (suc (suc zero)) j k h = absurd (k true h)
nobody x t r (suc (suc (suc zero))) j k h = absurd (k false h.0)
nobody x t r (suc (suc (suc (suc n)))) j k h = absurd h

-- what a slot says of a number that isn't left out
says_whole : {S V : Type 0} (x : Virtual S V) (z : Sizes) (but : ℕ → Type 0) (t : State S V) (r : x.holds t) (p word bits : ℕ) (st : Status) → ((i : ℕ) → slot_of z i ≡ p → but i → ⊥) →
    SlotSays x z but t r p word bits st → SlotSays x z of_none t r p word bits st
says_whole x z but t r p word bits (Shows i) out h = (h.0, h.1, h.2, h.3, λ again other. h.4 again (out i h.0))
says_whole x z but t r p word bits (Dirty k) out h = h
says_whole x z but t r p word bits (Free k) out h = h
says_whole x z but t r p word bits Spare out h = h

-- a slot whose number is used no more becomes a seat's own, to be emptied, if nobody had let its number go
module _ {S V : Type 0} (x : Virtual S V) (z : Sizes) (s : State S (Own V)) (t : State S V) (r : x.holds t) (j : ℕ) (f : FoldsBut x z (λ k. k ≡ j) s t r)
    (id : ℕ) (o : Own V) (at : get_elem? s.views id ≡ some o) (is : f.status (slot_of z j) ≡ Shows j) (reuse : z.reuses ≡ true) (low : slot_of z j < z.slots) (bits : slice_index s.words (let_go_word z (slot_of z j)) ≡ 0)
    (unused : Unused x t r j) where
  abbrev q9 : ℕ
  q9 = slot_of z j

  abbrev o9 : Own V
  o9 = record { view = o.view; dirty = q9 ∷ o.dirty; free = o.free; looked = o.looked }

  abbrev s9 : State S (Own V)
  s9 = record { words = s.words; homes = s.homes; views = set s.views id o9 }

  abbrev status9 : ℕ → Status
  status9 = status_at f.status q9 (Dirty id)

  taken_others : (i : ℕ) → i < slice_index t.words z.limit → (status9 (slot_of z i) ≡ Shows i) ⊎ Unused x t r i
  taken_others i l = ⊎_elim
      (λ e. dite (ℕ_discrete (slot_of z i) q9)
      (λ h. inr (let same : i ≡ j = (let k = sym e ∙ (ap f.status h ∙ is) in cc) in subst (λ y. Unused x t r y) (sym same) unused))
      (λ ne. inl (status_else f.status q9 (Dirty id) (slot_of z i) ne ∙ e)))
      (λ h. inr h)
      (f.others i l)

  shown_dirty : (k : ℕ) → f.status q9 ≡ Dirty k → ⊥
  shown_dirty k e = let h = sym e ∙ is in cc

  shown_free : (k : ℕ) → f.status q9 ≡ Free k → ⊥
  shown_free k e = let h = sym e ∙ is in cc

  pub taken : map (λ (y : Own V). y.view) s9.views ≡ t.views → Folds x z s9 t r
  taken views = record {
    wide = f.wide;
    tall = f.tall;
    homes = f.homes;
    views = views;
    rest = f.rest;
    status = status9;
    slots = λ p l. dite (ℕ_discrete p q9)
        (λ e. subst (λ y. SlotSays x z of_none t r p (slice_index s.words p) (slice_index s.words (let_go_word z p)) y) (sym (status_here f.status q9 (Dirty id) p e)) (ap (λ k. slice_index s.words (let_go_word z k)) e ∙ bits))
        (λ ne. subst (λ y. SlotSays x z of_none t r p (slice_index s.words p) (slice_index s.words (let_go_word z p)) y) (sym (status_else f.status q9 (Dirty id) p ne))
        (says_whole x z (λ k. k ≡ j) t r p (slice_index s.words p) (slice_index s.words (let_go_word z p)) (f.status p) (λ k here e. ne (sym here ∙ ap (slot_of z) e)) (f.slots p l)));
    others = taken_others;
    own = own_after z s.views f.status status9 id o9 f.own
        (λ k p ne. (
          (λ e. status_else f.status q9 (Dirty id) p (λ h. shown_dirty k (ap f.status (sym h) ∙ e)) ∙ e),
          (λ e. status_else f.status q9 (Dirty id) p (λ h. shown_free k (ap f.status (sym h) ∙ e)) ∙ e),
        ))
        (let w = f.own id o at in record {
          dirty_is = λ p h. ⊎_elim
              (λ e. (subst (λ k. k < z.slots) (sym e) low, status_here f.status q9 (Dirty id) p e))
              (λ had. let k = w.dirty_is p had in (k.0, status_else f.status q9 (Dirty id) p (λ e. shown_dirty id (ap f.status (sym e) ∙ k.1)) ∙ k.1))
              (one_more o.dirty q9 p h);
          free_is = λ p h. let k = w.free_is p h in (k.0, status_else f.status q9 (Dirty id) p (λ e. shown_free id (ap f.status (sym e) ∙ k.1)) ∙ k.1);
        });
    owned = λ p l. dite (ℕ_discrete p q9)
        (λ e. subst (HasOwner s9.views p) (sym (status_here f.status q9 (Dirty id) p e)) (o9, set_here s.views id o9 (at_inside s.views id o at), ap (λ n. has_number (q9 ∷ o.dirty) n) e ∙ has_first o.dirty q9))
        (λ ne. subst (HasOwner s9.views p) (sym (status_else f.status q9 (Dirty id) p ne)) (owned_after s.views id o o9 p (f.status p) at (has_more o.dirty q9 p) (λ h. h) (f.owned p l)));
    whole = λ e. absurd (cc);
  }

set_twice : {A : Type 0} (l : List A) (i : ℕ) (a b : A) → set (set l i a) i b ≡ set l i b
set_twice [] i a b = refl
set_twice (y ∷ ys) zero a b = refl
set_twice (y ∷ ys) (suc i) a b = ap (λ l. y ∷ l) (set_twice ys i a b)

-- a side lets its end go, and another number is used no more
pub lets_go_whole : {S V : Type 0} (x : Virtual S V) (z : Sizes) → Laws x z → AreSizes z → LetsGoWhole x z
lets_go_whole {S} {V} x z laws sizes g slots id o c i j b told keep lose reuse lives whole apart leaves steps s l deep at small =
    let t = l.0 in
    let r = l.1 in
    let fold = l.2 in
    let view = view_at x z s t r fold id o at in
    let live = lives t r view in
    let shown = (has_shows x z sizes s t r fold id o i at (inl lives)).1 in
    let both = whole t r view in
    let shown_too : fold.status (slot_of z j) ≡ Shows j = ⊎_elim (λ e. e) (λ u. absurd (both.1 false u.0)) (fold.others j both.0) in
    let low : slot_of z j < z.slots = mod-lt j (let b = live.1 in let h = sizes.some_slot (omega (arith, b)) in omega (arith, h)) in
    let says = shows_slot x z of_none t r (slot_of z j) (slice_index s.words (slot_of z j)) (slice_index s.words (let_go_word z (slot_of z j))) j (fold.status (slot_of z j)) shown_too (fold.slots (slot_of z j) low) in
    let zero_there : slice_index s.words (let_go_word z (slot_of z j)) ≡ 0 = nobody x t r (slice_index s.words (let_go_word z (slot_of z j))) j both.1 says.3 in
    let slots_apart : slot_of z j ≢ slot_of z i = λ h. apart t r view (let k = sym shown_too ∙ (ap fold.status h ∙ shown) in cc) in
    let Res : List ℕ → Type 0 = λ ws. (v : V) × (a : Act S) × Valid t.homes c a ×
    ((r' : x.holds (record { words = ws; homes = homes_after t.homes c a; views = set t.views id v })) × g t r (record { words = ws; homes = homes_after t.homes c a; views = set t.views id v }) r') × told (v, carried_after c a) in
    let st : Res t.words = subst Res (set-get_or t.words i 0) (steps t r (ap length (sym fold.homes) ∙ deep) view (laws.fits t r i live.1)) in
    let t' : State S V = record { words = t.words; homes = homes_after t.homes c st.1; views = set t.views id st.0 } in
    let left = leaves t r t' st.3.0 view st.3.1 in
    let lose1 = λ (again : z.reuses ≡ true). lose again t r t' st.3.0 view st.3.1 in
    let f1 = let_go_folds x z laws sizes s t r fold id o c at st.0 st.1 i b live.0 live.1 shown st.3.0 (keep t r t' st.3.0 st.3.1) left.0 (λ k. k ≡ j) lose1 in
    let o1 : Own V = record { view = st.0; dirty = o.dirty; free = o.free; looked = o.looked } in
    let n1 : ℕ = bit_or (slice_index s.words (let_go_word z (slot_of z i))) (side_bit b) in
    let s1 : State S (Own V) = stepped s (let_go_word z (slot_of z i)) n1 id c o1 st.1 in
    let o2 : Own V = record { view = st.0; dirty = slot_of z j ∷ o.dirty; free = o.free; looked = o.looked } in
    let still : slice_index s1.words (let_go_word z (slot_of z j)) ≡ 0 = get_or-set_other s.words (let_go_word z (slot_of z i)) (let_go_word z (slot_of z j)) n1 0 (λ e. slots_apart (omega (arith, e))) ∙ zero_there in
    let at1 : get_elem? s1.views id ≡ some o1 = set_here s.views id o1 (at_inside s.views id o at) in
    let views2 : map (λ (y : Own V). y.view) (set s1.views id o2) ≡ t'.views = ap (map (λ (y : Own V). y.view)) (set_twice s.views id o1 o2) ∙ (map-set (λ y. y.view) s.views id o2 ∙ ap (λ vs. set vs id st.0) fold.views) in
    let f2 = taken x z s1 t' st.3.0 j f1 id o1 at1 (let_go_status x z laws sizes s t r fold id o c at st.0 st.1 i b live.0 live.1 shown st.3.0 (keep t r t' st.3.0 st.3.1) left.0 (λ k. k ≡ j) lose1 (slot_of z j) ∙ shown_too) reuse low still left.1 views2 in
    let P : List (Own V) → Type 0 = λ vs. (l' : Lasting x z (record { words = s1.words; homes = s1.homes; views = vs })) × g t r l'.0 l'.1 in (
      o2,
      st.1,
      subst (λ hs. Valid hs c st.1) (sym fold.homes) st.2,
      subst P (set_twice s.views id o1 o2) ((t', st.3.0, f2), st.3.1),
      (st.4, refl, refl, refl),
    )
