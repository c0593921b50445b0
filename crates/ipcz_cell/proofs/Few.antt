-- So many numbers below a bound, of which none stands twice, are no more than the bound.
use Rattle.std.specs.Prelude.{◌≡◌, ◌≢◌, ◌≤◌, ◌+◌, ℕ, zero, suc, Bool, true, false, ◌||◌, cond, nat_eq, List, [], ◌∷◌, length}
use Rattle.std.proofs.Common.{ap, subst, refl, arith}
use Rattle.std.proofs.lemmas.Bool.Decides.{nat_tests}
use Rattle.ipcz_rule.specs.Rule.{has_number, without_number}
use Rattle.ipcz_cell.specs.Cells.{AreOnce, AreBelow}

either_absent : (a b c : Bool) → (a || b) ≡ false → (b ≡ false → c ≡ false) → (a || c) ≡ false
either_absent true b c e f = cc
either_absent false b c e f = f e

second_absent : (a b : Bool) → (a || b) ≡ false → b ≡ false
second_absent true b e = cc
second_absent false b e = e

-- a number that isn't in a list isn't in a part of it
still_absent : (xs : List ℕ) (n k : ℕ) → has_number xs k ≡ false → has_number (without_number xs n) k ≡ false
still_absent [] n k e = refl
still_absent (j ∷ js) n k e = by (nat_eq j n) (λ h. still_absent js n k h)
  where
    by : (b : Bool) → (has_number js k ≡ false → has_number (without_number js n) k ≡ false) → has_number (cond b (without_number js n) (j ∷ without_number js n)) k ≡ false
    by true rest = rest (second_absent (nat_eq k j) (has_number js k) e)
    by false rest = either_absent (nat_eq k j) (has_number js k) (has_number (without_number js n) k) e rest

still_once : (xs : List ℕ) (n : ℕ) → AreOnce xs → AreOnce (without_number xs n)
still_once [] n once = once
still_once (j ∷ js) n once = by (nat_eq j n) (still_once js n once.1)
  where
    by : (b : Bool) → AreOnce (without_number js n) → AreOnce (cond b (without_number js n) (j ∷ without_number js n))
    by true rest = rest
    by false rest = (still_absent js n j once.0, rest)

-- without the greatest number a list is below a smaller bound
lower : (xs : List ℕ) (n : ℕ) → AreBelow (suc n) xs → AreBelow n (without_number xs n)
lower [] n low = low
lower (j ∷ js) n low = by (nat_eq j n) refl (lower js n low.1)
  where
    by : (b : Bool) → nat_eq j n ≡ b → AreBelow n (without_number js n) → AreBelow n (cond b (without_number js n) (j ∷ without_number js n))
    by true e rest = rest
    by false e rest = let apart : j ≢ n = λ same. grind (arith, nat_tests, e, same) in let l = low.0 in (omega (arith, l, apart), rest)

first_absent : (a b : Bool) → (a || b) ≡ false → a ≡ true → ⊥
first_absent true b e h = cc
first_absent false b e h = cc

same_length : (xs : List ℕ) (n : ℕ) → has_number xs n ≡ false → length (without_number xs n) ≡ length xs
same_length [] n e = refl
same_length (j ∷ js) n e = by (nat_eq j n) refl (same_length js n (second_absent (nat_eq n j) (has_number js n) e))
  where
    by : (b : Bool) → nat_eq j n ≡ b → length (without_number js n) ≡ length js → length (cond b (without_number js n) (j ∷ without_number js n)) ≡ suc (length js)
    by true h rest = absurd (first_absent (nat_eq n j) (has_number js n) e (grind (arith, nat_tests, h)))
    by false h rest = ap suc rest

-- a list of which none stands twice loses one number at most
one_less : (xs : List ℕ) (n : ℕ) → AreOnce xs → length xs ≤ length (without_number xs n) + 1
one_less [] n once = omega arith
one_less (j ∷ js) n once = by (nat_eq j n) refl (one_less js n once.1)
  where
    by : (b : Bool) → nat_eq j n ≡ b → length js ≤ length (without_number js n) + 1 → suc (length js) ≤ length (cond b (without_number js n) (j ∷ without_number js n)) + 1
    by true h less = let same : j ≡ n = grind (arith, nat_tests, h) in
        let kept = same_length js n (subst (λ k. has_number js k ≡ false) same once.0) in omega (arith, kept)
    by false h less = omega (arith, less)

pub few : (n : ℕ) (xs : List ℕ) → AreOnce xs → AreBelow n xs → length xs ≤ n
few zero [] once low = omega arith
few zero (j ∷ js) once low = let l = low.0 in absurd (omega (arith, l))
few (suc n) xs once low =
    let h = few n (without_number xs n) (still_once xs n once) (lower xs n low) in
    let l = one_less xs n once in
    omega (arith, h, l)
