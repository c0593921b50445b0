-- What a step of the virtual table leaves of the slots, and the steps on words behind the link words and on live link words.
use Rattle.std.specs.Prelude.{◌≡◌, ◌≢◌, ◌<◌, ◌+◌, ℕ, zero, suc, Bool, true, false, List, [], ◌∷◌, length, slice_index, refl}
use Rattle.std.proofs.Common.{arith, ap, ◌∙◌, sym, subst, inl, inr, ⊎_elim, set, length-set, get_or-set_same, get_or-set_other}
use Rattle.std.proofs.lemmas.List.{map-set}
use Rattle.std.proofs.Math.Nat.{mod-lt, mod-eq_of_lt}
use mathlib.Core.Option.{some, some-injective, some-ne-none}
use mathlib.Core.Logic.{dite}
use native.Mathlib.Decide.{ℕ_discrete, dec_lt}
use lib.ListN.{get_elem?}
use Rattle.atomic_table.specs.Table.{State, Act, Valid, stepped, carried_after, homes_after}
use Rattle.atomic_table.proofs.Lists.{at_set, at_map, set_here, set_else}
use Rattle.ipcz_slots.specs.declared.own.Own.{Own}
use Rattle.ipcz_slots.specs.Slots.{Virtual, Sizes, AreSizes, Laws, Folds, of_none, Owns, HasOwner, SlotSays, LetGo, NotLetGo, Status, Shows, Dirty, Free, Spare, slot_of, let_go_word, has_number}
use Rattle.ipcz_slots.specs.SlotKinds.{OtherSteps, LinkSteps, Lives, HasSlot}

-- ends that are nowhere stay so: what a let-go word says stays
pub let_go_stays : {S V : Type 0} (x : Virtual S V) (t t' : State S V) (r : x.holds t) (r' : x.holds t') (n i : ℕ) → ((b : Bool) → x.gone t r b i → x.gone t' r' b i) →
    LetGo x t r n i → LetGo x t' r' n i
let_go_stays x t t' r r' zero i k h = tt
let_go_stays x t t' r r' (suc zero) i k h = k false h
let_go_stays x t t' r r' (suc (suc zero)) i k h = k true h
let_go_stays x t t' r r' (suc (suc (suc zero))) i k h = (k false h.0, k true h.1)
let_go_stays x t t' r r' (suc (suc (suc (suc n)))) i k h = absurd h

-- and ends that are somewhere: what it doesn't say
pub not_let_go_stays : {S V : Type 0} (x : Virtual S V) (t t' : State S V) (r : x.holds t) (r' : x.holds t') (n i : ℕ) → ((b : Bool) → x.gone t' r' b i → x.gone t r b i) →
    NotLetGo x t r n i → NotLetGo x t' r' n i
not_let_go_stays x t t' r r' zero i k h = ((λ g. h.0 (k false g)), (λ g. h.1 (k true g)))
not_let_go_stays x t t' r r' (suc zero) i k h = λ g. h (k true g)
not_let_go_stays x t t' r r' (suc (suc zero)) i k h = λ g. h (k false g)
not_let_go_stays x t t' r r' (suc (suc (suc n))) i k h = tt

-- what a slot says stays if the word of its number does
pub says_still : {S V : Type 0} (x : Virtual S V) (z : Sizes) (but : ℕ → Type 0) (t t' : State S V) (r : x.holds t) (r' : x.holds t') (p word bits : ℕ) (st : Status) →
    ((i : ℕ) → st ≡ Shows i → i < z.limit → slice_index t'.words i ≡ slice_index t.words i) → ((b : Bool) (i : ℕ) → st ≡ Shows i → x.gone t r b i → x.gone t' r' b i) →
    (z.reuses ≡ true → (b : Bool) (i : ℕ) → st ≡ Shows i → (but i → ⊥) → x.gone t' r' b i → x.gone t r b i) →
    SlotSays x z of_none t r p word bits st → SlotSays x z but t' r' p word bits st
says_still x z but t t' r r' p word bits (Shows i) same kept lost h = (
  h.0,
  h.1,
  h.2 ∙ sym (same i refl h.1),
  let_go_stays x t t' r r' bits i (λ b. kept b i refl) h.3,
  λ again other. not_let_go_stays x t t' r r' bits i (λ b. lost again b i refl other) (h.4 again (λ e. e)),
)
says_still x z but t t' r r' p word bits (Dirty seat) same kept lost h = h
says_still x z but t t' r r' p word bits (Free seat) same kept lost h = h
says_still x z but t t' r r' p word bits Spare same kept lost h = h

-- a seat's view is the virtual table's
pub view_at : {S V : Type 0} (x : Virtual S V) (z : Sizes) (s : State S (Own V)) (t : State S V) (r : x.holds t) (f : Folds x z s t r) (id : ℕ) (o : Own V) →
    get_elem? s.views id ≡ some o → get_elem? t.views id ≡ some o.view
view_at x z s t r f id o at = subst (λ vs. get_elem? vs id ≡ some o.view) f.views (at_map (λ q. q.view) s.views id o at)

-- the slots of the seats are theirs if those of the one that steps are
pub own_after : {V : Type 0} (z : Sizes) (views : List (Own V)) (status status' : ℕ → Status) (id : ℕ) (o' : Own V) →
    ((j : ℕ) (o : Own V) → get_elem? views j ≡ some o → Owns z status j o.dirty o.free) →
    ((j : ℕ) (p : ℕ) → j ≢ id → (status p ≡ Dirty j → status' p ≡ Dirty j) × (status p ≡ Free j → status' p ≡ Free j)) →
    Owns z status' id o'.dirty o'.free → (j : ℕ) (o : Own V) → get_elem? (set views id o') j ≡ some o → Owns z status' j o.dirty o.free
own_after z views status status' id o' was kept mine j o at =
    ⊎_elim (λ (e : (j ≡ id) × (o' ≡ o)). subst (λ q. Owns z status' j q.dirty q.free) e.1 (subst (λ k. Owns z status' k o'.dirty o'.free) (sym e.0) mine))
    (λ (e : (j ≢ id) × (get_elem? views j ≡ some o)).
    let w = was j o e.1 in record {
      dirty_is = λ p h. ((w.dirty_is p h).0, (kept j p e.0).0 (w.dirty_is p h).1);
      free_is = λ p h. ((w.free_is p h).0, (kept j p e.0).1 (w.free_is p h).1);
    })
    (at_set views id j o' o at)

-- what stands in a list stands inside of it
pub at_inside : {A : Type 0} (l : List A) (i : ℕ) (a : A) → get_elem? l i ≡ some a → i < length l
at_inside [] i a e = absurd (some-ne-none a (sym e))
at_inside (y ∷ ys) zero a e = omega arith
at_inside (y ∷ ys) (suc i) a e = let h = at_inside ys i a e in omega arith

-- a seat's slots stay its own where it steps and keeps its lists, and another's where it isn't the one that steps
pub owned_after : {V : Type 0} (views : List (Own V)) (id : ℕ) (o o' : Own V) (p : ℕ) (st : Status) → get_elem? views id ≡ some o →
    (has_number o.dirty p ≡ true → has_number o'.dirty p ≡ true) → (has_number o.free p ≡ true → has_number o'.free p ≡ true) →
    HasOwner views p st → HasOwner (set views id o') p st
owned_after {V} views id o o' p (Shows i) at dirty free h = tt
owned_after {V} views id o o' p (Dirty k) at dirty free h = dite (ℕ_discrete k id)
    (λ e. (
      o',
      subst (λ j. get_elem? (set views id o') j ≡ some o') (sym e) (set_here views id o' (at_inside views id o at)),
      dirty (subst (λ q. has_number q.dirty p ≡ true) (some-injective h.0 o (sym h.1 ∙ (ap (get_elem? views) e ∙ at))) h.2),
    ))
    (λ ne. (h.0, set_else views id k o' ne ∙ h.1, h.2))
owned_after {V} views id o o' p (Free k) at dirty free h = dite (ℕ_discrete k id)
    (λ e. (
      o',
      subst (λ j. get_elem? (set views id o') j ≡ some o') (sym e) (set_here views id o' (at_inside views id o at)),
      free (subst (λ q. has_number q.free p ≡ true) (some-injective h.0 o (sym h.1 ∙ (ap (get_elem? views) e ∙ at))) h.2),
    ))
    (λ ne. (h.0, set_else views id k o' ne ∙ h.1, h.2))
owned_after {V} views id o o' p Spare at dirty free h = tt

-- an end that is nowhere stays so where the claim count does
pub gone_stays : {S V : Type 0} (x : Virtual S V) (z : Sizes) (laws : Laws x z) (t t' : State S V) (r : x.holds t) (r' : x.holds t') →
    slice_index t'.words z.limit ≡ slice_index t.words z.limit → ((b : Bool) (i : ℕ) → i < slice_index t.words z.limit → x.gone t r b i → x.gone t' r' b i) →
    (b : Bool) (i : ℕ) → x.gone t r b i → x.gone t' r' b i
gone_stays x z laws t t' r r' same keep b i h = dite (dec_lt i (slice_index t.words z.limit)) (λ l. keep b i l h) (λ l. laws.unclaimed t' r' b i (omega (arith, l, same)))

-- and one that is somewhere, if those of claimed numbers do
pub lost_stays : {S V : Type 0} (x : Virtual S V) (z : Sizes) (laws : Laws x z) (t t' : State S V) (r : x.holds t) (r' : x.holds t') →
    ((b : Bool) (i : ℕ) → i < slice_index t.words z.limit → x.gone t' r' b i → x.gone t r b i) → (b : Bool) (i : ℕ) → x.gone t' r' b i → x.gone t r b i
lost_stays x z laws t t' r r' lose b i h = dite (dec_lt i (slice_index t.words z.limit)) (λ l. lose b i l h) (λ l. laws.unclaimed t r b i (omega (arith, l)))

-- a step of the virtual table on a word behind the link words, which leaves the claim count: the same step here
module _ {S V : Type 0} (x : Virtual S V) (z : Sizes) (laws : Laws x z) (sizes : AreSizes z) (s : State S (Own V)) (t : State S V) (r : x.holds t) (f : Folds x z s t r)
    (id : ℕ) (o : Own V) (c : List (ℕ × S)) (at : get_elem? s.views id ≡ some o) (v : V) (a : Act S) (j n : ℕ) (inside : j < z.others)
    (r' : x.holds (stepped t (z.limit + j) n id c v a)) (stays : slice_index (set t.words (z.limit + j) n) z.limit ≡ slice_index t.words z.limit)
    (keep : (b : Bool) (i : ℕ) → i < slice_index t.words z.limit → x.gone t r b i → x.gone (stepped t (z.limit + j) n id c v a) r' b i)
    (lose : z.reuses ≡ true → (b : Bool) (i : ℕ) → i < slice_index t.words z.limit → x.gone (stepped t (z.limit + j) n id c v a) r' b i → x.gone t r b i) where
  abbrev t2 : State S V
  t2 = stepped t (z.limit + j) n id c v a

  abbrev o2 : Own V
  o2 = record { view = v; dirty = o.dirty; free = o.free; looked = o.looked }

  abbrev s2 : State S (Own V)
  s2 = stepped s (z.slots + j) n id c o2 a

  gone2 : (b : Bool) (i : ℕ) → x.gone t r b i → x.gone t2 r' b i
  gone2 = gone_stays x z laws t t2 r r' stays keep

  rest2 : (k : ℕ) → k < z.others → slice_index s2.words (z.slots + k) ≡ slice_index t2.words (z.limit + k)
  rest2 k l = dite (ℕ_discrete k j)
      (λ e. get_or-set_at s.words (z.slots + j) (z.slots + k) n (omega (arith, e)) (let w = f.wide in omega (arith, w, inside)) ∙ sym (get_or-set_at t.words (z.limit + j) (z.limit + k) n (omega (arith, e)) (let w = f.tall in omega (arith, w, inside))))
      (λ ne. get_or-set_other s.words (z.slots + j) (z.slots + k) n 0 (λ e. ne (omega (arith, e))) ∙ (f.rest k l ∙ sym (get_or-set_other t.words (z.limit + j) (z.limit + k) n 0 (λ e. ne (omega (arith, e))))))
    where
      get_or-set_at : (xs : List ℕ) (i k y : ℕ) → k ≡ i → i < length xs → slice_index (set xs i y) k ≡ y
      get_or-set_at xs i k y e l = ap (slice_index (set xs i y)) e ∙ get_or-set_same xs i y 0 l

  slots2 : (p : ℕ) → p < z.slots → SlotSays x z of_none t2 r' p (slice_index s2.words p) (slice_index s2.words (let_go_word z p)) (f.status p)
  slots2 p l =
      let word : slice_index s2.words p ≡ slice_index s.words p = get_or-set_other s.words (z.slots + j) p n 0 (λ e. omega (arith, e, l)) in
      let bits : slice_index s2.words (let_go_word z p) ≡ slice_index s.words (let_go_word z p) = get_or-set_other s.words (z.slots + j) (let_go_word z p) n 0 (λ e. omega (arith, e, inside)) in
      subst (λ n1. SlotSays x z of_none t2 r' p n1 (slice_index s2.words (let_go_word z p)) (f.status p)) (sym word)
      (subst (λ n1. SlotSays x z of_none t2 r' p (slice_index s.words p) n1 (f.status p)) (sym bits)
      (says_still x z of_none t t2 r r' p (slice_index s.words p) (slice_index s.words (let_go_word z p)) (f.status p)
      (λ i e l1. get_or-set_other t.words (z.limit + j) i n 0 (λ e1. omega (arith, e1, l1))) (λ b i e. gone2 b i)
      (λ again b i e other. lost_stays x z laws t t2 r r' (lose again) b i) (f.slots p l)))

  pub other_folds : Folds x z s2 t2 r'
  other_folds = record {
    wide = length-set s.words (z.slots + j) n ∙ f.wide;
    tall = length-set t.words (z.limit + j) n ∙ f.tall;
    homes = ap (λ hs. homes_after hs c a) f.homes;
    views = map-set (λ q. q.view) s.views id o2 ∙ ap (λ vs. set vs id v) f.views;
    rest = rest2;
    status = f.status;
    slots = slots2;
    others = λ i l. ⊎_elim (λ e. inl e) (λ h. inr (gone2 false i h.0, gone2 true i h.1)) (f.others i (omega (arith, l, stays)));
    own = own_after z s.views f.status f.status id o2 f.own (λ j1 p ne. ((λ e. e), (λ e. e))) (let w = f.own id o at in record { dirty_is = w.dirty_is; free_is = w.free_is });
    owned = λ p l. owned_after s.views id o o2 p (f.status p) at (λ h. h) (λ h. h) (f.owned p l);
    whole = λ e. let w = f.whole e in record {
      shows = w.shows;
      fresh = λ p far l. get_or-set_other s.words (z.slots + j) (let_go_word z p) n 0 (λ e1. omega (arith, e1, inside)) ∙ w.fresh p (omega (arith, far, stays)) l;
    };
  }

pub get_or-set_at : (xs : List ℕ) (i k y : ℕ) → k ≡ i → i < length xs → slice_index (set xs i y) k ≡ y
get_or-set_at xs i k y e l = ap (slice_index (set xs i y)) e ∙ get_or-set_same xs i y 0 l

-- a step on a word behind the link words which leaves the claim count
pub other_steps : {S V : Type 0} (x : Virtual S V) (z : Sizes) → Laws x z → AreSizes z → OtherSteps x z
other_steps {S} {V} x z laws sizes g slots id o c j f told keep lose inside leaves steps s l deep at small =
    let t = l.0 in
    let r = l.1 in
    let fold = l.2 in
    let i : ℕ = z.limit + j in
    let n : ℕ = slice_index s.words (z.slots + j) in
    let e : slice_index t.words i ≡ n = sym (fold.rest j inside) in
    let view = view_at x z s t r fold id o at in
    let Res : ℕ → Type 0 = λ k. (v : V) × (a : Act S) × Valid t.homes c a × ((r' : x.holds (stepped t i (f k) id c v a)) × g t r (stepped t i (f k) id c v a) r') × told k (v, carried_after c a) in
    let st : Res n = subst Res e (steps t r (ap length (sym fold.homes) ∙ deep) view (subst (λ k. k < 18446744073709551616) (sym e) small)) in
    let stays : slice_index (set t.words i (f n)) z.limit ≡ slice_index t.words z.limit = dite (ℕ_discrete j 0)
    (λ h. get_or-set_at t.words i z.limit (f n) (omega (arith, h)) (let w = fold.tall in omega (arith, w, inside)) ∙ (leaves n h ∙ (sym e ∙ ap (slice_index t.words) (omega (arith, h)))))
    (λ ne. get_or-set_other t.words i z.limit (f n) 0 (λ q. ne (omega (arith, q)))) in (
      record { view = st.0; dirty = o.dirty; free = o.free; looked = o.looked },
      st.1,
      subst (λ hs. Valid hs c st.1) (sym fold.homes) st.2,
      ((stepped t i (f n) id c st.0 st.1, st.3.0, other_folds x z laws sizes s t r fold id o c at st.0 st.1 j (f n) inside st.3.0 stays (keep t r (stepped t i (f n) id c st.0 st.1) st.3.0 st.3.1) (λ again. lose again t r (stepped t i (f n) id c st.0 st.1) st.3.0 view st.3.1)), st.3.1),
      (st.4, refl, refl, refl),
    )

pub shows_slot : {S V : Type 0} (x : Virtual S V) (z : Sizes) (but : ℕ → Type 0) (t : State S V) (r : x.holds t) (p word bits i : ℕ) (st : Status) → st ≡ Shows i → SlotSays x z but t r p word bits st →
    SlotSays x z but t r p word bits (Shows i)
shows_slot x z but t r p word bits i st e h = subst (λ y. SlotSays x z but t r p word bits y) e h

-- the slot of a number that lives shows it
live_shows : {S V : Type 0} (x : Virtual S V) (z : Sizes) (s : State S (Own V)) (t : State S V) (r : x.holds t) (f : Folds x z s t r) (id : ℕ) (o : Own V) (i : ℕ) →
    get_elem? s.views id ≡ some o → Lives x z id o.view i → f.status (slot_of z i) ≡ Shows i
live_shows x z s t r f id o i at lives = let h = lives t r (view_at x z s t r f id o at) in ⊎_elim (λ e. e) (λ u. absurd (h.2 u)) (f.others i h.0)

-- so does that of a number that has a slot, which is a number of the table
pub has_shows : {S V : Type 0} (x : Virtual S V) (z : Sizes) (sizes : AreSizes z) (s : State S (Own V)) (t : State S V) (r : x.holds t) (f : Folds x z s t r) (id : ℕ) (o : Own V) (i : ℕ) →
    get_elem? s.views id ≡ some o → HasSlot x z id o.view i → (i < z.limit) × (f.status (slot_of z i) ≡ Shows i)
has_shows x z sizes s t r f id o i at has = ⊎_elim
    (λ lives. ((lives t r (view_at x z s t r f id o at)).1, live_shows x z s t r f id o i at lives))
    (λ whole.
    let same : z.slots ≡ z.limit = sizes.whole whole.0 in
    let low : i < z.slots = let l = whole.1 in omega (arith, same, l) in
    let own : slot_of z i ≡ i = mod-eq_of_lt low in
    (whole.1, ap f.status own ∙ (f.whole whole.0).shows i low))
    has

-- a step of the virtual table on the word of a number that has a slot
module _ {S V : Type 0} (x : Virtual S V) (z : Sizes) (laws : Laws x z) (sizes : AreSizes z) (s : State S (Own V)) (t : State S V) (r : x.holds t) (f : Folds x z s t r)
    (id : ℕ) (o : Own V) (c : List (ℕ × S)) (at : get_elem? s.views id ≡ some o) (v : V) (a : Act S) (i n : ℕ) (below : i < z.limit) (is : f.status (slot_of z i) ≡ Shows i)
    (r' : x.holds (stepped t i n id c v a)) (keep : (b : Bool) (k : ℕ) → k < slice_index t.words z.limit → x.gone t r b k → x.gone (stepped t i n id c v a) r' b k)
    (lose : z.reuses ≡ true → (b : Bool) (k : ℕ) → k < slice_index t.words z.limit → x.gone (stepped t i n id c v a) r' b k → x.gone t r b k) where
  abbrev t3 : State S V
  t3 = stepped t i n id c v a

  abbrev o3 : Own V
  o3 = record { view = v; dirty = o.dirty; free = o.free; looked = o.looked }

  abbrev p3 : ℕ
  p3 = slot_of z i

  abbrev s3 : State S (Own V)
  s3 = stepped s p3 n id c o3 a

  low3 : p3 < z.slots
  low3 = mod-lt i (let h = sizes.some_slot (omega (arith, below)) in omega (arith, h))

  count3 : slice_index t3.words z.limit ≡ slice_index t.words z.limit
  count3 = get_or-set_other t.words i z.limit n 0 (λ e. omega (arith, e, below))

  gone3 : (b : Bool) (k : ℕ) → x.gone t r b k → x.gone t3 r' b k
  gone3 = gone_stays x z laws t t3 r r' count3 keep

  slots3 : (p : ℕ) → p < z.slots → SlotSays x z of_none t3 r' p (slice_index s3.words p) (slice_index s3.words (let_go_word z p)) (f.status p)
  slots3 p l =
      let bits : slice_index s3.words (let_go_word z p) ≡ slice_index s.words (let_go_word z p) = get_or-set_other s.words p3 (let_go_word z p) n 0 (λ e. let h = low3 in omega (arith, e, h)) in
      subst (λ k. SlotSays x z of_none t3 r' p (slice_index s3.words p) k (f.status p)) (sym bits) (dite (ℕ_discrete p p3)
      (λ e. let shown : f.status p ≡ Shows i = ap f.status e ∙ is in
      let was = shows_slot x z of_none t r p (slice_index s.words p) (slice_index s.words (let_go_word z p)) i (f.status p) shown (f.slots p l) in
      subst (λ y. SlotSays x z of_none t3 r' p (slice_index s3.words p) (slice_index s.words (let_go_word z p)) y) (sym shown) (
        sym e,
        below,
        get_or-set_at s.words p3 p n e (let w = f.wide in let h = low3 in omega (arith, w, h)) ∙ sym (get_or-set_same t.words i n 0 (let w = f.tall in omega (arith, w, below))),
        let_go_stays x t t3 r r' (slice_index s.words (let_go_word z p)) i (λ b. gone3 b i) was.3,
        λ again other. not_let_go_stays x t t3 r r' (slice_index s.words (let_go_word z p)) i (λ b. lost_stays x z laws t t3 r r' (lose again) b i) (was.4 again other),
      ))
      (λ ne. let word : slice_index s3.words p ≡ slice_index s.words p = get_or-set_other s.words p3 p n 0 ne in
      subst (λ k. SlotSays x z of_none t3 r' p k (slice_index s.words (let_go_word z p)) (f.status p)) (sym word)
      (says_still x z of_none t t3 r r' p (slice_index s.words p) (slice_index s.words (let_go_word z p)) (f.status p)
      (λ k e l1. get_or-set_other t.words i k n 0
      (λ q. ne (sym (shows_slot x z of_none t r p (slice_index s.words p) (slice_index s.words (let_go_word z p)) k (f.status p) e (f.slots p l)).0 ∙ ap (slot_of z) q)))
      (λ b k e. gone3 b k) (λ again b k e other. lost_stays x z laws t t3 r r' (lose again) b k) (f.slots p l))))

  pub link_folds : Folds x z s3 t3 r'
  link_folds = record {
    wide = length-set s.words p3 n ∙ f.wide;
    tall = length-set t.words i n ∙ f.tall;
    homes = ap (λ hs. homes_after hs c a) f.homes;
    views = map-set (λ q. q.view) s.views id o3 ∙ ap (λ vs. set vs id v) f.views;
    rest = λ k l. get_or-set_other s.words p3 (z.slots + k) n 0 (λ e. let h = low3 in omega (arith, e, h)) ∙ (f.rest k l ∙ sym (get_or-set_other t.words i (z.limit + k) n 0 (λ e. omega (arith, e, below))));
    status = f.status;
    slots = slots3;
    others = λ k l. ⊎_elim (λ e. inl e) (λ h. inr (gone3 false k h.0, gone3 true k h.1)) (f.others k (let w = count3 in omega (arith, l, w)));
    own = own_after z s.views f.status f.status id o3 f.own (λ j1 p ne. ((λ e. e), (λ e. e))) (let w = f.own id o at in record { dirty_is = w.dirty_is; free_is = w.free_is });
    owned = λ p l. owned_after s.views id o o3 p (f.status p) at (λ h. h) (λ h. h) (f.owned p l);
    whole = λ e. let w = f.whole e in record {
      shows = w.shows;
      fresh = λ p far l. get_or-set_other s.words p3 (let_go_word z p) n 0 (λ e1. let h = low3 in omega (arith, e1, h)) ∙ w.fresh p (let h = count3 in omega (arith, far, h)) l;
    };
  }

pub link_steps : {S V : Type 0} (x : Virtual S V) (z : Sizes) → Laws x z → AreSizes z → LinkSteps x z
link_steps {S} {V} x z laws sizes g slots id o c i f told keep lose has steps s l deep at small =
    let t = l.0 in
    let r = l.1 in
    let fold = l.2 in
    let view = view_at x z s t r fold id o at in
    let there = has_shows x z sizes s t r fold id o i at has in
    let p : ℕ = slot_of z i in
    let n : ℕ = slice_index s.words p in
    let low : p < z.slots = mod-lt i (let b = there.0 in let h = sizes.some_slot (omega (arith, b)) in omega (arith, h)) in
    let e : slice_index t.words i ≡ n = sym (shows_slot x z of_none t r p n (slice_index s.words (let_go_word z p)) i (fold.status p) there.1 (fold.slots p low)).2 in
    let Res : ℕ → Type 0 = λ k. (v : V) × (a : Act S) × Valid t.homes c a × ((r' : x.holds (stepped t i (f k) id c v a)) × g t r (stepped t i (f k) id c v a) r') × told k (v, carried_after c a) in
    let st : Res n = subst Res e (steps t r (ap length (sym fold.homes) ∙ deep) view (subst (λ k. k < 18446744073709551616) (sym e) small)) in (
      record { view = st.0; dirty = o.dirty; free = o.free; looked = o.looked },
      st.1,
      subst (λ hs. Valid hs c st.1) (sym fold.homes) st.2,
      ((stepped t i (f n) id c st.0 st.1, st.3.0, link_folds x z laws sizes s t r fold id o c at st.0 st.1 i (f n) there.0 there.1 st.3.0 (keep t r (stepped t i (f n) id c st.0 st.1) st.3.0 st.3.1) (λ again. lose again t r (stepped t i (f n) id c st.0 st.1) st.3.0 view st.3.1)), st.3.1),
      (st.4, refl, refl, refl),
    )
