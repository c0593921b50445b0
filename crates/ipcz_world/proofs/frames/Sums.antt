-- Totals over lists, over places, and over numbered items.
use Rattle.std.specs.Prelude.{◌≡◌, ◌≤◌, ◌<◌, ℕ, zero, suc, ◌+◌, true, false, cond, nat_eq, Some, List, [], ◌∷◌, slice_get, refl}
use Rattle.std.proofs.Common.{arith}
use Rattle.std.proofs.lemmas.Bool.Decides.{nat_tests}
use Rattle.ipcz_world.proofs.Vocabulary.{Item, place_at, total_below, total_list, from_number}

-- a list has at least the weight of each of its elements
pub total_list-at : {X : Type 0} (h : X → ℕ) (xs : List X) (i : ℕ) (x : X) → slice_get xs i ≡ Some x → h x ≤ total_list h xs
total_list-at h [] i x e = grind (arith, e)
total_list-at h (y ∷ ys) zero x e = grind (arith, e)
total_list-at h (y ∷ ys) (suc i) x e = omega (arith, total_list-at h ys i x e)

pub total_list-place : {X : Type 0} (h : X → ℕ) (d : X) (xs : List X) (i : ℕ) → h d ≡ 0 → h (place_at d xs i) ≤ total_list h xs
unfolding place_at
total_list-place h d [] i z = omega (arith, z)
total_list-place h d (x ∷ xs) zero z = omega arith
total_list-place h d (x ∷ xs) (suc i) z = omega (arith, total_list-place h d xs i z)

pub total_below-same : (n : ℕ) (f h : ℕ → ℕ) → ((i : ℕ) → f i ≡ h i) → total_below n f ≡ total_below n h
total_below-same zero f h e = refl
total_below-same (suc n) f h e = omega (arith, e n, total_below-same n f h e)

-- weighs an item of one number
abbrev pub just : ℕ → ℕ → Item → ℕ
just n m item = cond (nat_eq m n) 1 0

none_later : (n first : ℕ) (items : List Item) → n < first → from_number (just n) first items ≡ 0
none_later n first [] h = refl
none_later n first (item ∷ items) h = grind (arith, nat_tests, h, none_later n (first + 1) items)

-- a number comes at most once in a list that is numbered
pub just_once : (n first : ℕ) (items : List Item) → from_number (just n) first items ≤ 1
just_once n first [] = omega arith
just_once n first (item ∷ items) = elim (nat_eq first n) as (λ b. nat_eq first n ≡ b →
    cond b 1 0 + from_number (just n) (first + 1) items ≤ 1) [
      | true ↦ λ e. let f : first ≡ n = grind (arith, nat_tests, e) in omega (arith, none_later n (first + 1) items (omega (arith, f)))
      | false ↦ λ e. omega (arith, just_once n (first + 1) items)
    ] refl

pub total_below-none : (c : ℕ) (f : ℕ → ℕ) → ((j : ℕ) → f j ≡ 0) → total_below c f ≡ 0
total_below-none zero f h = refl
total_below-none (suc c) f h = omega (arith, h c, total_below-none c f h)

pub total_list-agree : {X : Type 0} (f h : X → ℕ) (xs : List X) → ((i : ℕ) (x : X) → slice_get xs i ≡ Some x → f x ≡ h x) →
    total_list f xs ≡ total_list h xs
total_list-agree f h [] e = refl
total_list-agree f h (x ∷ xs) e = omega (arith, e 0 x refl, total_list-agree f h xs (λ i y. e (suc i) y))
