-- How totals over lists, over numbers below a bound and over pairs of them move when one term changes.
use Rattle.std.specs.Prelude.{◌≡◌, ◌<◌, ℕ, zero, suc, ◌+◌, Bool, true, false, ◌&&◌, nat_eq, List, [], ◌∷◌, ◌++◌, refl}
use Rattle.std.proofs.Common.{arith}
use Rattle.std.proofs.lemmas.Bool.Decides.{nat_tests}
use Rattle.ipcz_world.proofs.Vocabulary.{place_at, put_place, total_list, total_below}

pub total_list-append : {X : Type 0} (h : X → ℕ) (xs ys : List X) → total_list h (xs ++ ys) ≡ total_list h xs + total_list h ys
total_list-append h [] ys = omega arith
total_list-append h (x ∷ xs) ys = omega (arith, total_list-append h xs ys)

-- an element of a list takes another's place; what lies beyond the end weighs nothing
pub total_list-put_place : {X : Type 0} (h : X → ℕ) (d : X) (xs : List X) (i : ℕ) (y : X) → h d ≡ 0 →
    total_list h (put_place d xs i y) + h (place_at d xs i) ≡ total_list h xs + h y
unfolding place_at put_place
total_list-put_place h d [] zero y e = omega (arith, e)
total_list-put_place h d [] (suc i) y e = omega (arith, e, total_list-put_place h d [] i y e)
total_list-put_place h d (x ∷ xs) zero y e = omega arith
total_list-put_place h d (x ∷ xs) (suc i) y e = omega (arith, total_list-put_place h d xs i y e)

pub total_list-same : {X : Type 0} (h k : X → ℕ) (xs : List X) → ((x : X) → h x ≡ k x) → total_list h xs ≡ total_list k xs
total_list-same h k [] e = refl
total_list-same h k (x ∷ xs) e = omega (arith, e x, total_list-same h k xs e)

pub total_below-same : (n : ℕ) (a b : ℕ → ℕ) → ((j : ℕ) → j < n → a j ≡ b j) → total_below n a ≡ total_below n b
total_below-same zero a b e = refl
total_below-same (suc n) a b e = omega (arith, e n (omega arith), total_below-same n a b (λ j h. e j (omega (arith, h))))

-- two totals below a bound whose terms differ at one number
pub total_below-one : (n i : ℕ) (a b : ℕ → ℕ) → i < n → ((j : ℕ) → j < n → nat_eq j i ≡ false → a j ≡ b j) →
    total_below n a + b i ≡ total_below n b + a i
total_below-one zero i a b h e = absurd (omega (arith, h))
total_below-one (suc n) i a b h e = go (λ l. total_below-one n i a b l (λ j m. e j (omega (arith, m)))) (nat_eq i n) refl
  where
    go : (i < n → total_below n a + b i ≡ total_below n b + a i) → (t : Bool) → nat_eq i n ≡ t →
        a n + total_below n a + b i ≡ b n + total_below n b + a i
    go below true q = let same : i ≡ n = grind (arith, q, nat_tests) in
        let at : a i + b n ≡ b i + a n = rw same (omega arith) in
        omega (arith, at, total_below-same n a b (λ j l. e j (omega (arith, l)) (grind (arith, l, same, nat_tests))))
    go below false q = omega (arith, below (grind (arith, h, q, nat_tests)), e n (omega arith) (grind (arith, q, nat_tests)))

-- the total over all pairs of numbers below a bound
abbrev pub total_pairs : ℕ → (ℕ → ℕ → ℕ) → ℕ
total_pairs n a = total_below n (λ i. total_below n (a i))

pub total_pairs-same : (n : ℕ) (a b : ℕ → ℕ → ℕ) → ((i j : ℕ) → i < n → j < n → a i j ≡ b i j) → total_pairs n a ≡ total_pairs n b
total_pairs-same n a b e = total_below-same n (λ i. total_below n (a i)) (λ i. total_below n (b i))
    (λ i l. total_below-same n (a i) (b i) (λ j m. e i j l m))

-- two such totals whose terms differ at one pair
pub total_pairs-one : (n i j : ℕ) (a b : ℕ → ℕ → ℕ) → i < n → j < n →
    ((p q : ℕ) → p < n → q < n → (nat_eq p i && nat_eq q j) ≡ false → a p q ≡ b p q) →
    total_pairs n a + b i j ≡ total_pairs n b + a i j
total_pairs-one n i j a b hi hj e = omega (arith, rows, row)
  where
    rows : total_pairs n a + total_below n (b i) ≡ total_pairs n b + total_below n (a i)
    rows = total_below-one n i (λ p. total_below n (a p)) (λ p. total_below n (b p)) hi
        (λ p l q. total_below-same n (a p) (b p) (λ s m. e p s l m (grind (arith, q))))

    row : total_below n (a i) + b i j ≡ total_below n (b i) + a i j
    row = total_below-one n j (a i) (b i) hj (λ q m t. e i q hi m (grind (arith, t)))
