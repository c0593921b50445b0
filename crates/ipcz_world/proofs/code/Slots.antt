-- Lists read and written by index, in this project's words and in std's.
use Rattle.std.specs.Prelude.{◌≡◌, ◌<◌, ◌≤◌, ℕ, zero, suc, List, [], ◌∷◌, ◌++◌, length, map}
use Rattle.std.proofs.Common.{arith, ap, sym, refl, get_or, set, ◌∙◌}
use Rattle.ipcz_world.proofs.Vocabulary.{place_at, put_place}

-- the element within a list, whatever lies beyond it
pub get-place : {X : Type 0} (d e : X) (xs : List X) (i : ℕ) → i < length xs → get_or xs i e ≡ place_at d xs i
unfolding place_at
get-place d e [] i l = absurd (omega arith)
get-place d e (x ∷ xs) zero l = refl
get-place d e (x ∷ xs) (suc i) l = get-place d e xs i (omega arith)

-- a write within a list
pub set-place : {X : Type 0} (d : X) (xs : List X) (i : ℕ) (y : X) → i < length xs → set xs i y ≡ put_place d xs i y
unfolding put_place
set-place d [] i y l = absurd (omega arith)
set-place d (x ∷ xs) zero y l = refl
set-place d (x ∷ xs) (suc i) y l = ap (λ ys. x ∷ ys) (set-place d xs i y (omega arith))

-- an element written back
pub put-same : {X : Type 0} (d : X) (xs : List X) (i : ℕ) → i < length xs → put_place d xs i (place_at d xs i) ≡ xs
unfolding place_at put_place
put-same d [] i l = absurd (omega arith)
put-same d (x ∷ xs) zero l = refl
put-same d (x ∷ xs) (suc i) l = ap (λ ys. x ∷ ys) (put-same d xs i (omega arith))

-- a write within a list leaves its length
pub length-put : {X : Type 0} (d : X) (xs : List X) (i : ℕ) (y : X) → i < length xs → length (put_place d xs i y) ≡ length xs
unfolding put_place
length-put d [] i y l = absurd (omega arith)
length-put d (x ∷ xs) zero y l = refl
length-put d (x ∷ xs) (suc i) y l = ap suc (length-put d xs i y (omega arith))

-- an element of the first of two lists in a row
pub place-front : {X : Type 0} (d : X) (xs ys : List X) (i : ℕ) → i < length xs → place_at d (xs ++ ys) i ≡ place_at d xs i
unfolding place_at
place-front d [] ys i l = absurd (omega arith)
place-front d (x ∷ xs) ys zero l = refl
place-front d (x ∷ xs) ys (suc i) l = place-front d xs ys i (omega arith)

-- a write into the first of two lists in a row
pub put-front : {X : Type 0} (d : X) (xs ys : List X) (i : ℕ) (y : X) → i < length xs →
    put_place d (xs ++ ys) i y ≡ put_place d xs i y ++ ys
unfolding put_place
put-front d [] ys i y l = absurd (omega arith)
put-front d (x ∷ xs) ys zero y l = refl
put-front d (x ∷ xs) ys (suc i) y l = ap (λ zs. x ∷ zs) (put-front d xs ys i y (omega arith))

-- an element of a list of images
pub map-place : {X Y : Type 0} (f : X → Y) (d : X) (e : Y) (xs : List X) (i : ℕ) → i < length xs →
    place_at e (map f xs) i ≡ f (place_at d xs i)
unfolding place_at
map-place f d e [] i l = absurd (omega arith)
map-place f d e (x ∷ xs) zero l = refl
map-place f d e (x ∷ xs) (suc i) l = map-place f d e xs i (omega arith)

-- a write before the images are taken
pub map-put : {X Y : Type 0} (f : X → Y) (d : X) (e : Y) (xs : List X) (i : ℕ) (y : X) → i < length xs →
    map f (put_place d xs i y) ≡ put_place e (map f xs) i (f y)
unfolding put_place
map-put f d e [] i y l = absurd (omega arith)
map-put f d e (x ∷ xs) zero y l = refl
map-put f d e (x ∷ xs) (suc i) y l = ap (λ ys. f x ∷ ys) (map-put f d e xs i y (omega arith))

-- beyond a list
pub place-beyond : {X : Type 0} (d : X) (xs : List X) (i : ℕ) → length xs ≤ i → place_at d xs i ≡ d
unfolding place_at
place-beyond d [] i l = refl
place-beyond d (x ∷ xs) zero l = absurd (omega arith)
place-beyond d (x ∷ xs) (suc i) l = place-beyond d xs i (omega arith)

-- the element of a list, as code reads it
pub place_read : {X : Type 0} (d : X) (xs : List X) (i : ℕ) (x : X) → x ≡ get_or xs i x → i < length xs → place_at d xs i ≡ x
place_read d xs i x e l = sym (get-place d x xs i l) ∙ sym e
