-- Each accepted item that was not read stands once, and nothing else stands anywhere; what a terminal reads next is what its peer put.
use Rattle.std.specs.Prelude.{◌≡◌, ◌<◌, ◌≤◌, ℕ, zero, suc, ◌+◌, Bool, true, false, nat_eq, Some, List, [], ◌∷◌, drop, slice_get, refl}
use Rattle.std.proofs.Common.{arith, ap, subst, ◌∙◌, sym}
use Rattle.std.proofs.lemmas.Bool.Decides.{nat_tests}
use Rattle.ipcz_world.proofs.Vocabulary.{End, Item, opposite_end, item_at, Router, World, Key, router_at, Books, read, Records, at_end, Inv}
use Rattle.ipcz_world.proofs.Vocabulary.{routes_of, from_number, Routes}
use Rattle.ipcz_world.specs.Places.{just, times_at, unread_weight}
use Rattle.ipcz_world.specs.Places as places
use Rattle.ipcz_world.specs.WorldLaws.{ItemsStandOnce}
use Rattle.ipcz_base.specs.Items.{same_item}
use Rattle.ipcz_world.proofs.facts.LinkTests.{same_end-itself, opposite_end-twice}
use Rattle.ipcz_world.proofs.frames.Weighing.{in_router-is}
use Rattle.ipcz_world.proofs.frames.Booking.{total-has, in_router-within}
use Rattle.ipcz_world.proofs.facts.SameItems.{same_item-itself, same_item-tells}
use Rattle.ipcz_world.proofs.facts.Slices.{slice_get-drop}

pub just-here : (n : ℕ) (x : Item) → just n x n x ≡ 1
just-here n x = let e : nat_eq n n ≡ true = grind (arith, nat_tests) in rw (e, same_item-itself x) refl

pub just-tells : (n m : ℕ) (x y : Item) → 1 ≤ just n x m y → (m ≡ n) × (y ≡ x)
just-tells n m x y h = go (nat_eq m n) (same_item y x) refl refl
  where
    go : (p q : Bool) → nat_eq m n ≡ p → same_item y x ≡ q → (m ≡ n) × (y ≡ x)
    go true true e f = (grind (arith, e, nat_tests), same_item-tells y x f)
    go true false e f = absurd (grind (arith, e, f, h))
    go false q e f = absurd (grind (arith, e, h))

none_later : (n first : ℕ) (x : Item) (xs : List Item) → n < first → from_number (just n x) first xs ≡ 0
none_later n first x [] l = refl
none_later n first x (y ∷ ys) l = grind (arith, nat_tests, l, none_later n (first + 1) x ys)

-- an item of a numbered list is counted once
counted : (first i : ℕ) (x : Item) (xs : List Item) → slice_get xs i ≡ Some x → from_number (just (first + i) x) first xs ≡ 1
counted first i x [] h = cc
counted first zero x (y ∷ ys) h =
    let e : y ≡ x = grind (arith, h) in
    let z : first + zero ≡ first = omega arith in
    let one : just (first + zero) x first y ≡ 1 = rw (z, e) (just-here first x) in
    omega (arith, one, none_later (first + zero) (first + 1) x ys (omega arith))
counted first (suc i) x (y ∷ ys) h =
    let z : first + suc i ≡ (first + 1) + i = omega arith in
    let more : from_number (just (first + suc i) x) (first + 1) ys ≡ 1 = rw z (counted (first + 1) i x ys h) in
    let away : just (first + suc i) x first y ≡ 0 = grind (arith, nat_tests) in
    omega (arith, more, away)

-- and what is counted is an item of the list
in_list : (n first : ℕ) (x : Item) (xs : List Item) → 1 ≤ from_number (just n x) first xs →
    (i : ℕ) × (n ≡ first + i) × (slice_get xs i ≡ Some x)
in_list n first x [] h = absurd (omega (arith, h))
in_list n first x (y ∷ ys) h = go (just n x first y) refl (in_list n (first + 1) x ys)
  where
    go : (a : ℕ) → just n x first y ≡ a → (1 ≤ from_number (just n x) (first + 1) ys →
        (i : ℕ) × (n ≡ (first + 1) + i) × (slice_get ys i ≡ Some x)) → (i : ℕ) × (n ≡ first + i) × (slice_get (y ∷ ys) i ≡ Some x)
    go zero e more = let t = more (omega (arith, h, e)) in (suc t.0, omega (arith, t.1), t.2)
    go (suc a) e more = let t = just-tells n first x y (omega (arith, e)) in (zero, omega (arith, t.0), ap Some t.1)

pub unread-has : (b : Books) (e : End) (n : ℕ) (x : Item) → read b (opposite_end e) ≤ n → slice_get (b.put e) n ≡ Some x →
    unread_weight (just n x) b e ≡ 1
unread-has b e n x l h = go l h
  where
    r : ℕ
    r = read b (opposite_end e)

    at : (i : ℕ) → n ≡ r + i → slice_get (b.put e) n ≡ Some x → from_number (just n x) r (drop r (b.put e)) ≡ 1
    at i s h = rw s (counted r i x (drop r (b.put e)) (slice_get-drop r (b.put e) i ∙ ap (slice_get (b.put e)) (sym s) ∙ h))

    rest : (a c : ℕ) → a ≤ c → (i : ℕ) × (c ≡ a + i)
    rest zero c l = (c, omega arith)
    rest (suc a) zero l = absurd (omega (arith, l))
    rest (suc a) (suc c) l = let t = rest a c (omega (arith, l)) in (t.0, omega (arith, t.1))

    go : r ≤ n → slice_get (b.put e) n ≡ Some x → unread_weight (just n x) b e ≡ 1
    go l h = let t = rest r n l in at t.0 t.1 h

pub unread-tells : (b : Books) (e : End) (n : ℕ) (x : Item) → 1 ≤ unread_weight (just n x) b e →
    (read b (opposite_end e) ≤ n) × (slice_get (b.put e) n ≡ Some x)
unread-tells b e n x h =
    let t = in_list n (read b (opposite_end e)) x (drop (read b (opposite_end e)) (b.put e)) h in
    (omega (arith, t.1), ap (slice_get (b.put e)) t.1 ∙ sym (slice_get-drop (read b (opposite_end e)) (b.put e) t.0) ∙ t.2)

-- the sentence of Headline: however items are weighed, the places of an end weigh what its peer hasn't read
abbrev pub IsExact : World → Books → Routes → Type 0
IsExact w b g = (e : End) (h : ℕ → Item → ℕ) → places.in_places (at_end e h) g w ≡ unread_weight h b e

pub once : (w : World) (b : Books) (g : Routes) → IsExact w b g → (e : End) (n : ℕ) (x : Item) → read b (opposite_end e) ≤ n →
    slice_get (b.put e) n ≡ Some x → times_at w g e n x ≡ 1
once w b g exact e n x l h = exact e (just n x) ∙ unread-has b e n x l h

pub only : (w : World) (b : Books) (g : Routes) → IsExact w b g → (e : End) (n : ℕ) (x : Item) → 1 ≤ times_at w g e n x →
    (read b (opposite_end e) ≤ n) × (slice_get (b.put e) n ≡ Some x)
only w b g exact e n x h = unread-tells b e n x (omega (arith, h, exact e (just n x)))

-- if the sentence holds, each item that the peer hasn't read stands in one place, and no other item in any
pub items_stand_once : ItemsStandOnce
items_stand_once w b g law = record { once = once w b g law.one_place; only = only w b g law.one_place }

-- an item in an in queue was put by the peer, under its number, and wasn't read
pub in_queue-put : (w : World) (b : Books) (g : Records) (k : Key) (r : Router) (n : ℕ) (x : Item) → Inv w b g → router_at w k ≡ Some r →
    item_at r.in_queue n ≡ Some x → (read b r.end ≤ n) × (slice_get (b.put (opposite_end r.end)) n ≡ Some x)
in_queue-put w b g k r n x law here at =
    let f = at_end (opposite_end r.end) (just n x) in
    let mine : f (opposite_end r.end) n x ≡ 1 = rw (same_end-itself (opposite_end r.end)) (just-here n x) in
    let one : 1 ≤ times_at w (routes_of g) (opposite_end r.end) n x =
    omega (
      arith,
      mine,
      total-has (f (opposite_end r.end)) r.in_queue n x at,
      in_router-is f r,
      in_router-within f g w k r (law.counts.on_node k r here) here,
    ) in
    let t = only w b (routes_of g) law.conserved.exact (opposite_end r.end) n x one in
    (subst (λ e. read b e ≤ n) (opposite_end-twice r.end) t.0, t.1)
