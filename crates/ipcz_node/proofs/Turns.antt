-- Searches among the nodes, and in lists by an index that may lie beyond the end.
use Rattle.std.proofs.Common.{◌≡◌, ℕ, zero, suc, ◌+◌, ◌-◌, ◌<◌, ◌≤◌, Bool, true, false, subst, if◌then◌else◌, Option, Some, List, [], ◌∷◌}
use Rattle.std.proofs.Common.{length, get_or, refl, sym, ◌∙◌, ap, arith}
use native.Mathlib.Numerals.{unary_clauses}
use Rattle.ipcz_base.specs.Indexed.{place_at}
use Rattle.ipcz_node.specs.Acts.{first_number}

-- if some numbers are left, the search looks at the first of them
pub first_step : (test : ℕ → Bool) (from left : ℕ) → 0 < left →
    first_number test from left ≡ (if test from then Some from else first_number test (from + 1) (left - 1))
first_step test from zero some = absurd (omega (arith, some))
first_step test from (suc left) some = simp unary_clauses refl

-- a number that doesn't pass is left out
pub passed : (test : ℕ → Bool) (from end : ℕ) (found : Option ℕ) → from < end → test from ≡ false →
    first_number test from (end - from) ≡ found → first_number test (from + 1) (end - (from + 1)) ≡ found
passed test from end found low fails is =
    let left : end - (from + 1) ≡ (end - from) - 1 = omega (arith, low) in
    let step = first_step test from (end - from) (omega (arith, low)) in
    ap (first_number test (from + 1)) left ∙
    sym (step ∙ ap (λ b. if b then Some from else first_number test (from + 1) ((end - from) - 1)) fails) ∙ is

-- what the search finds is below its end and passes
pub first_number-tells : (test : ℕ → Bool) (from left i : ℕ) → first_number test from left ≡ Some i → (i < from + left) × (test i ≡ true)
first_number-tells test from zero i e = cc
first_number-tells test from (suc left) i e = go (test from) refl e (first_number-tells test (from + 1) left i)
  where
    go : (c : Bool) → test from ≡ c → (if c then Some from else first_number test (from + 1) left) ≡ Some i →
        (first_number test (from + 1) left ≡ Some i → (i < (from + 1) + left) × (test i ≡ true)) → (i < from + suc left) × (test i ≡ true)
    go true q h more = let same : from ≡ i = grind (arith, h) in (omega (arith, same), subst (λ x. test x ≡ true) same q)
    go false q h more = let t = more h in (omega (arith, t.0), t.1)

-- within the list
pub place_within : {X : Type 0} (d x : X) (xs : List X) (i : ℕ) → i < length xs → x ≡ get_or xs i x → place_at d xs i ≡ x
unfolding place_at
place_within d x [] i low is = absurd (omega (arith, low))
place_within d x (y ∷ ys) zero low is = sym is
place_within d x (y ∷ ys) (suc i) low is = place_within d x ys i (omega (arith, low)) is

-- beyond its end
pub place_beyond : {X : Type 0} (d : X) (xs : List X) (i : ℕ) → length xs ≤ i → place_at d xs i ≡ d
unfolding place_at
place_beyond d [] i high = refl
place_beyond d (y ∷ ys) zero high = absurd (omega (arith, high))
place_beyond d (y ∷ ys) (suc i) high = place_beyond d ys i (omega (arith, high))
