-- Which element of a list stands at a place of one that is made of it.
use Rattle.std.specs.Prelude.{◌≡◌, ◌<◌, ◌+◌, ◌++◌, ℕ, zero, suc, List, [], ◌∷◌, length, drop, take, slice_get, refl}
use Rattle.std.proofs.Common.{arith, ap, sym, ◌∙◌}

pub slice_get-left : {X : Type 0} (xs ys : List X) (k : ℕ) → k < length xs → slice_get (xs ++ ys) k ≡ slice_get xs k
slice_get-left [] ys k low = absurd (omega (arith, low))
slice_get-left (x ∷ xs) ys zero low = refl
slice_get-left (x ∷ xs) ys (suc k) low = slice_get-left xs ys k (omega (arith, low))

pub slice_get-right : {X : Type 0} (xs ys : List X) (k : ℕ) → slice_get (xs ++ ys) (length xs + k) ≡ slice_get ys k
slice_get-right [] ys k = ap (slice_get ys) (omega arith)
slice_get-right (x ∷ xs) ys k = let e : suc (length xs) + k ≡ suc (length xs + k) = omega arith in ap (slice_get (x ∷ xs ++ ys)) e ∙ slice_get-right xs ys k

pub slice_get-drop : {X : Type 0} (n : ℕ) (xs : List X) (k : ℕ) → slice_get (drop n xs) k ≡ slice_get xs (n + k)
slice_get-drop zero xs k = ap (slice_get xs) (omega arith)
slice_get-drop (suc n) [] k = refl
slice_get-drop (suc n) (x ∷ xs) k = let e : suc n + k ≡ suc (n + k) = omega arith in slice_get-drop n xs k ∙ ap (slice_get (x ∷ xs)) (sym e)

pub slice_get-take : {X : Type 0} (n : ℕ) (xs : List X) (k : ℕ) → k < n → slice_get (take n xs) k ≡ slice_get xs k
slice_get-take zero xs k low = absurd (omega (arith, low))
slice_get-take (suc n) [] k low = refl
slice_get-take (suc n) (x ∷ xs) zero low = refl
slice_get-take (suc n) (x ∷ xs) (suc k) low = slice_get-take n xs k (omega (arith, low))
