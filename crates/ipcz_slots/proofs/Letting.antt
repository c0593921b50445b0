-- An act by which a side lets its end go: it sets the side's bit in the let-go word of the slot.
use Rattle.std.specs.Prelude.{◌≡◌, ◌≢◌, ◌<◌, ◌⊎◌, ◌+◌, ℕ, zero, suc, Bool, true, false, List, length, slice_index, refl, bit_or}
use Rattle.std.proofs.Common.{arith, ap, ◌∙◌, sym, subst, inl, inr, ⊎_elim, set, length-set, get_or-set_other}
use Rattle.std.proofs.lemmas.List.{map-set, set-get_or}
use Rattle.std.proofs.Math.Nat.{mod-lt, mod-eq_of_lt}
use mathlib.Core.Option.{some}
use mathlib.Core.Logic.{dite}
use native.Mathlib.Decide.{ℕ_discrete, dec_lt}
use lib.ListN.{get_elem?}
use Rattle.atomic_table.specs.Table.{State, Act, Valid, stepped, carried_after, homes_after}
use Rattle.ipcz_slots.specs.declared.own.Own.{Own}
use Rattle.ipcz_slots.specs.Slots.{Virtual, Sizes, AreSizes, Laws, FoldsBut, Folds, of_none, SlotSays, LetGo, NotLetGo, Shows, slot_of, let_go_word}
use Rattle.ipcz_slots.specs.SlotKinds.{LetsGo, side_bit}
use Rattle.ipcz_slots.proofs.Folding.{says_still, let_go_stays, view_at, own_after, owned_after, gone_stays, get_or-set_at, shows_slot, has_shows}

-- one side more has let go
let_go_more : {S V : Type 0} (x : Virtual S V) (t : State S V) (r : x.holds t) (n i : ℕ) (b : Bool) → x.gone t r b i → LetGo x t r n i → LetGo x t r (bit_or n (side_bit b)) i
let_go_more x t r zero i false h k = h
let_go_more x t r zero i true h k = h
let_go_more x t r (suc zero) i false h k = h
let_go_more x t r (suc zero) i true h k = (k, h)
let_go_more x t r (suc (suc zero)) i false h k = (h, k)
let_go_more x t r (suc (suc zero)) i true h k = h
let_go_more x t r (suc (suc (suc zero))) i false h k = (h, k.1)
let_go_more x t r (suc (suc (suc zero))) i true h k = (k.0, h)
let_go_more x t r (suc (suc (suc (suc n)))) i b h k = absurd k

-- and no other: what a let-go word doesn't say then
not_let_go_more : {S V : Type 0} (x : Virtual S V) (t t' : State S V) (r : x.holds t) (r' : x.holds t') (n i : ℕ) (b : Bool) → ((d : Bool) → d ≢ b → x.gone t' r' d i → x.gone t r d i) →
    LetGo x t r n i → NotLetGo x t r n i → NotLetGo x t' r' (bit_or n (side_bit b)) i
not_let_go_more x t t' r r' zero i false lose says h = λ g. h.1 (lose true (λ e. cc) g)
not_let_go_more x t t' r r' zero i true lose says h = λ g. h.0 (lose false (λ e. cc) g)
not_let_go_more x t t' r r' (suc zero) i false lose says h = λ g. h (lose true (λ e. cc) g)
not_let_go_more x t t' r r' (suc zero) i true lose says h = tt
not_let_go_more x t t' r r' (suc (suc zero)) i false lose says h = tt
not_let_go_more x t t' r r' (suc (suc zero)) i true lose says h = λ g. h (lose false (λ e. cc) g)
not_let_go_more x t t' r r' (suc (suc (suc zero))) i false lose says h = tt
not_let_go_more x t t' r r' (suc (suc (suc zero))) i true lose says h = tt
not_let_go_more x t t' r r' (suc (suc (suc (suc n)))) i b lose says h = absurd says

-- the act lets this end go, and none else but of some numbers
module _ {S V : Type 0} (x : Virtual S V) (z : Sizes) (laws : Laws x z) (sizes : AreSizes z) (s : State S (Own V)) (t : State S V) (r : x.holds t) (f : Folds x z s t r)
    (id : ℕ) (o : Own V) (c : List (ℕ × S)) (at : get_elem? s.views id ≡ some o) (v : V) (a : Act S) (i : ℕ) (b : Bool) (few : i < slice_index t.words z.limit) (below : i < z.limit) (is : f.status (slot_of z i) ≡ Shows i)
    (r' : x.holds (record { words = t.words; homes = homes_after t.homes c a; views = set t.views id v }))
    (keep : (b : Bool) (k : ℕ) → k < slice_index t.words z.limit → x.gone t r b k → x.gone (record { words = t.words; homes = homes_after t.homes c a; views = set t.views id v }) r' b k)
    (left : x.gone (record { words = t.words; homes = homes_after t.homes c a; views = set t.views id v }) r' b i)
    (but : ℕ → Type 0)
    (lose : z.reuses ≡ true → (d : Bool) (k : ℕ) → k < slice_index t.words z.limit → (((d ≡ b) × (k ≡ i)) ⊎ but k → ⊥) →
    x.gone (record { words = t.words; homes = homes_after t.homes c a; views = set t.views id v }) r' d k → x.gone t r d k) where
  abbrev t4 : State S V
  t4 = record { words = t.words; homes = homes_after t.homes c a; views = set t.views id v }

  abbrev o4 : Own V
  o4 = record { view = v; dirty = o.dirty; free = o.free; looked = o.looked }

  abbrev p4 : ℕ
  p4 = slot_of z i

  abbrev w4 : ℕ
  w4 = let_go_word z p4

  abbrev n4 : ℕ
  n4 = bit_or (slice_index s.words w4) (side_bit b)

  abbrev s4 : State S (Own V)
  s4 = stepped s w4 n4 id c o4 a

  low4 : p4 < z.slots
  low4 = mod-lt i (let h = sizes.some_slot (omega (arith, below)) in omega (arith, h))

  gone4 : (d : Bool) (k : ℕ) → x.gone t r d k → x.gone t4 r' d k
  gone4 = gone_stays x z laws t t4 r r' refl keep

  -- of this number only this side becomes nowhere
  lost4 : z.reuses ≡ true → (but i → ⊥) → (d : Bool) → d ≢ b → x.gone t4 r' d i → x.gone t r d i
  lost4 again other d ne g = lose again d i few (λ h. ⊎_elim (λ e. ne e.0) (λ e. other e) h) g

  -- and none of another
  others4 : z.reuses ≡ true → (d : Bool) (k : ℕ) → (k ≢ i) → (but k → ⊥) → x.gone t4 r' d k → x.gone t r d k
  others4 again d k ne other g = dite (dec_lt k (slice_index t.words z.limit))
      (λ l. lose again d k l (λ h. ⊎_elim (λ e. ne e.1) (λ e. other e) h) g)
      (λ l. laws.unclaimed t r d k (omega (arith, l)))

  slots4 : (p : ℕ) → p < z.slots → SlotSays x z but t4 r' p (slice_index s4.words p) (slice_index s4.words (let_go_word z p)) (f.status p)
  slots4 p l =
      let word : slice_index s4.words p ≡ slice_index s.words p = get_or-set_other s.words w4 p n4 0 (λ e. omega (arith, e, l)) in
      subst (λ k. SlotSays x z but t4 r' p k (slice_index s4.words (let_go_word z p)) (f.status p)) (sym word) (dite (ℕ_discrete p p4)
      (λ e. let shown : f.status p ≡ Shows i = ap f.status e ∙ is in
      let was = shows_slot x z of_none t r p (slice_index s.words p) (slice_index s.words (let_go_word z p)) i (f.status p) shown (f.slots p l) in
      let bits : slice_index s4.words (let_go_word z p) ≡ n4 = get_or-set_at s.words w4 (let_go_word z p) n4 (omega (arith, e)) (let w = f.wide in let h = low4 in omega (arith, w, h)) in
      let kept : LetGo x t4 r' (slice_index s.words w4) i = subst (λ k. LetGo x t4 r' (slice_index s.words (let_go_word z k)) i) e (let_go_stays x t t4 r r' (slice_index s.words (let_go_word z p)) i (λ d. gone4 d i) was.3) in
      subst (λ y. SlotSays x z but t4 r' p (slice_index s.words p) (slice_index s4.words (let_go_word z p)) y) (sym shown) (
        was.0,
        below,
        was.2,
        subst (λ k. LetGo x t4 r' k i) (sym bits) (let_go_more x t4 r' (slice_index s.words w4) i b left kept),
        λ again other. subst (λ k. NotLetGo x t4 r' k i) (sym bits) (not_let_go_more x t t4 r r' (slice_index s.words w4) i b (lost4 again other)
            (subst (λ k. LetGo x t r (slice_index s.words (let_go_word z k)) i) e was.3)
            (subst (λ k. NotLetGo x t r (slice_index s.words (let_go_word z k)) i) e (was.4 again (λ q. q)))),
      ))
      (λ ne. let bits : slice_index s4.words (let_go_word z p) ≡ slice_index s.words (let_go_word z p) = get_or-set_other s.words w4 (let_go_word z p) n4 0 (λ e. ne (omega (arith, e))) in
      subst (λ k. SlotSays x z but t4 r' p (slice_index s.words p) k (f.status p)) (sym bits)
      (says_still x z but t t4 r r' p (slice_index s.words p) (slice_index s.words (let_go_word z p)) (f.status p) (λ k e l1. refl) (λ d k e. gone4 d k)
      (λ again d k e other. others4 again d k (λ q. ne (sym (shows_slot x z of_none t r p (slice_index s.words p) (slice_index s.words (let_go_word z p)) k (f.status p) e (f.slots p l)).0 ∙ ap (slot_of z) q)) other)
      (f.slots p l))))

  pub let_go_folds : FoldsBut x z but s4 t4 r'
  let_go_folds = record {
    wide = length-set s.words w4 n4 ∙ f.wide;
    tall = f.tall;
    homes = ap (λ hs. homes_after hs c a) f.homes;
    views = map-set (λ q. q.view) s.views id o4 ∙ ap (λ vs. set vs id v) f.views;
    rest = λ k l. get_or-set_other s.words w4 (z.slots + k) n4 0 (λ e. omega (arith, e, l)) ∙ f.rest k l;
    status = f.status;
    slots = slots4;
    others = λ k l. ⊎_elim (λ e. inl e) (λ h. inr (gone4 false k h.0, gone4 true k h.1)) (f.others k l);
    own = own_after z s.views f.status f.status id o4 f.own (λ j1 p ne. ((λ e. e), (λ e. e))) (let w = f.own id o at in record { dirty_is = w.dirty_is; free_is = w.free_is });
    owned = λ p l. owned_after s.views id o o4 p (f.status p) at (λ h. h) (λ h. h) (f.owned p l);
    whole = λ e. let w = f.whole e in record {
      shows = w.shows;
      fresh = λ p far l.
          let own : p4 ≡ i = mod-eq_of_lt (let same = sizes.whole e in omega (arith, same, below)) in
          get_or-set_other s.words w4 (let_go_word z p) n4 0 (λ e1. omega (arith, e1, own, far, few)) ∙ w.fresh p far l;
    };
  }

  pub let_go_status : (p : ℕ) → let_go_folds.status p ≡ f.status p
  unfolding let_go_folds
  let_go_status p = refl

-- a side lets its end go
pub lets_go : {S V : Type 0} (x : Virtual S V) (z : Sizes) → Laws x z → AreSizes z → LetsGo x z
lets_go {S} {V} x z laws sizes g slots id o c i b told keep lose lives leaves steps s l deep at small =
    let t = l.0 in
    let r = l.1 in
    let fold = l.2 in
    let view = view_at x z s t r fold id o at in
    let live = lives t r view in
    let shown = (has_shows x z sizes s t r fold id o i at (inl lives)).1 in
    let Res : List ℕ → Type 0 = λ ws. (v : V) × (a : Act S) × Valid t.homes c a ×
    ((r' : x.holds (record { words = ws; homes = homes_after t.homes c a; views = set t.views id v })) × g t r (record { words = ws; homes = homes_after t.homes c a; views = set t.views id v }) r') × told (v, carried_after c a) in
    let st : Res t.words = subst Res (set-get_or t.words i 0) (steps t r (ap length (sym fold.homes) ∙ deep) view (laws.fits t r i live.1)) in
    let t' : State S V = record { words = t.words; homes = homes_after t.homes c st.1; views = set t.views id st.0 } in (
      record { view = st.0; dirty = o.dirty; free = o.free; looked = o.looked },
      st.1,
      subst (λ hs. Valid hs c st.1) (sym fold.homes) st.2,
      (
        (
          t',
          st.3.0,
          let_go_folds x z laws sizes s t r fold id o c at st.0 st.1 i b live.0 live.1 shown st.3.0 (keep t r t' st.3.0 st.3.1) (leaves t r t' st.3.0 view st.3.1) of_none
              (λ again d k few out gone. lose again t r t' st.3.0 view st.3.1 d k few (λ e. out (inl e)) gone),
        ),
        st.3.1,
      ),
      (st.4, refl, refl, refl),
    )
