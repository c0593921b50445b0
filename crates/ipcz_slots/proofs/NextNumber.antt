-- The least number of a slot from a count on.
use Rattle.std.specs.Prelude.{◌≡◌, ◌≤◌, ◌<◌, ◌+◌, ◌-◌, ◌*◌, ◌%◌, ◌/◌, ℕ}
use Rattle.std.proofs.Common.{arith, ap, ◌∙◌, sym}
use Rattle.std.proofs.Math.Nat.{div-add-mod, mod-lt, mod-eq_of_lt, mul-add-mod_self_left, mul-le-mul_left, mul-add}
use mathlib.Core.Logic.{dite}
use native.Mathlib.Decide.{dec_lt}

more : (s a : ℕ) → s * (a + 1) ≡ s * a + s
more s a = mul-add s a 1 ∙ omega (arith)

-- the number that a round of the slots has for a slot is of that slot
pub of_slot : (s a p : ℕ) → p < s → (s * a + p) % s ≡ p
of_slot s a p low = mul-add-mod_self_left s a p ∙ mod-eq_of_lt low

-- a number of the slot p from a count on, whose own slot is f, isn't below that of the count's round if f isn't behind p, else that of the next round
pub not_below_own : (s q f p a count m : ℕ) → s * q + f ≡ count → s * a + p ≡ m → p < s → count ≤ m → s * q + p ≤ m
not_below_own s q f p a count m is at low up =
    dite (dec_lt a q)
    (λ l. let h : s * (a + 1) ≤ s * (q) = mul-le-mul_left s (omega (arith, l)) in let e = more s a in absurd (omega (arith, h, e, is, at, low, up)))
    (λ l. let h : s * (q) ≤ s * (a) = mul-le-mul_left s (omega (arith, l)) in omega (arith, h, at))

pub not_below_next : (s q f p a count m : ℕ) → s * q + f ≡ count → s * a + p ≡ m → p < f → count ≤ m → s * (q + 1) + p ≤ m
not_below_next s q f p a count m is at low up =
    dite (dec_lt q a)
    (λ l. let h : s * (q + 1) ≤ s * (a) = mul-le-mul_left s (omega (arith, l)) in omega (arith, h, at))
    (λ l. let h : s * (a) ≤ s * (q) = mul-le-mul_left s (omega (arith, l)) in absurd (omega (arith, h, is, at, low, up)))

-- the number that is so far behind the count, in its own round and in the next
pub own_round : (count p s skipped : ℕ) → p < s → count % s ≤ p → skipped ≡ p - count % s →
    ((count + skipped) % s ≡ p) × ((m : ℕ) → count ≤ m → m % s ≡ p → count + skipped ≤ m)
own_round count p s skipped low first is =
    let whole = div-add-mod count s in
    let at : count + skipped ≡ s * (count / s) + p = omega (arith, whole, first, is) in (
      ap (λ (k : ℕ). k % s) at ∙ of_slot s (count / s) p low,
      (λ m up e. let other : s * (m / s) + p ≡ m = ap (λ (k : ℕ). s * (m / s) + k) (sym e) ∙ div-add-mod m s in
          let h = not_below_own s (count / s) (count % s) p (m / s) count m whole other low up in omega (arith, at, h)),
    )

pub next_round : (count p s skipped : ℕ) → p < s → p < count % s → skipped ≡ s - count % s + p →
    ((count + skipped) % s ≡ p) × ((m : ℕ) → count ≤ m → m % s ≡ p → count + skipped ≤ m)
next_round count p s skipped low first is =
    let whole = div-add-mod count s in
    let below : count % s < s = mod-lt count (omega (arith, low)) in
    let e1 = more s (count / s) in
    let at : count + skipped ≡ s * (count / s + 1) + p = omega (arith, whole, below, is, e1) in (
      ap (λ (k : ℕ). k % s) at ∙ of_slot s (count / s + 1) p low,
      (λ m up e. let other : s * (m / s) + p ≡ m = ap (λ (k : ℕ). s * (m / s) + k) (sym e) ∙ div-add-mod m s in
          let h = not_below_next s (count / s) (count % s) p (m / s) count m whole other first up in omega (arith, at, h)),
    )
