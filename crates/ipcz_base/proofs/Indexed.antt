-- Lists by index: what is found after a change.
use Rattle.std.specs.Prelude.{◌≡◌, ◌≢◌, ◌<◌, ℕ, zero, suc, true, false, cond, nat_eq, List, [], ◌∷◌, length, refl}
use Rattle.std.proofs.Common.{arith, ap}
use Rattle.std.proofs.lemmas.Bool.Decides.{nat_tests}
use Rattle.ipcz_base.specs.Indexed.{place_at, put_place}

-- the index that was changed finds the new element
here : {X : Type 0} (d : X) (xs : List X) (i : ℕ) (y : X) → place_at d (put_place d xs i y) i ≡ y
unfolding place_at put_place
here d [] zero y = refl
here d [] (suc i) y = here d [] i y
here d (x ∷ xs) zero y = refl
here d (x ∷ xs) (suc i) y = here d xs i y

-- another index finds what it found before
apart : {X : Type 0} (d : X) (xs : List X) (i j : ℕ) (y : X) → j ≢ i → place_at d (put_place d xs i y) j ≡ place_at d xs j
unfolding place_at put_place
apart d [] zero zero y ne = absurd (ne refl)
apart d [] zero (suc j) y ne = refl
apart d [] (suc i) zero y ne = refl
apart d [] (suc i) (suc j) y ne = apart d [] i j y (λ e. ne (ap suc e))
apart d (x ∷ xs) zero zero y ne = absurd (ne refl)
apart d (x ∷ xs) zero (suc j) y ne = refl
apart d (x ∷ xs) (suc i) zero y ne = refl
apart d (x ∷ xs) (suc i) (suc j) y ne = apart d xs i j y (λ e. ne (ap suc e))

-- what an index finds after a change at another: the new element there, else what it found before
pub place_at-put_place : {X : Type 0} (d : X) (xs : List X) (i : ℕ) (y : X) (j : ℕ) →
    place_at d (put_place d xs i y) j ≡ cond (nat_eq j i) y (place_at d xs j)
place_at-put_place d xs i y j =
    elim (nat_eq j i) as (λ b. nat_eq j i ≡ b → place_at d (put_place d xs i y) j ≡ cond b y (place_at d xs j)) [
      | true ↦ λ e. grind (arith, here d xs i y, nat_tests)
      | false ↦ λ e. grind (arith, apart d xs i j y, nat_tests)
    ] refl

-- a change within a list leaves its length
pub length-put_place : {X : Type 0} (d : X) (xs : List X) (i : ℕ) (y : X) → i < length xs → length (put_place d xs i y) ≡ length xs
unfolding put_place
length-put_place d [] i y l = absurd (omega (arith, l))
length-put_place d (x ∷ xs) zero y l = refl
length-put_place d (x ∷ xs) (suc i) y l = ap suc (length-put_place d xs i y (omega (arith, l)))
