use Rattle.std.proofs.Common.{◌≡◌, ◌≤◌, ◌<◌, ◌+◌, ◌-◌, ◌/◌, ◌%◌, ◌^◌, ℕ, ap, sym, ◌∙◌, arith}
use Rattle.std.specs.Int.{bit_at, trailing_zeros, w64}
use mathlib.Core.Logic.{dite}
use native.Mathlib.Decide.{dec_lt}
use native.Mathlib.Nat.{div-le_self}
use Rattle.std.proofs.lemmas.Nat.{shr-shr}
use Rattle.std.proofs.lemmas.Nat.Bits.{bit_at-zero, bit_at-trailing_zeros, bit_at_above}
use Rattle.ipcz_node.proofs.node_set.next_set.Goals as goal

-- a bit of what is left
left_bit : (n k j : ℕ) → k ≤ j → bit_at n j ≡ bit_at (n / 2 ^ k) (j - k)
left_bit n k j low = let e : k + (j - k) ≡ j = omega (arith, low) in ap (bit_at n) (sym e) ∙ ap (λ (x : ℕ). x % 2) (sym (shr-shr n k (j - k)))

pub returns-then-left-eq0 : goal.returns-then-left-eq0
returns-then-left-eq0 c = record {
  from = c.requires;
  most = omega arith;
  clear = λ j low high. left_bit c.args.bits c.args.from j low ∙ (ap (λ (x : ℕ). bit_at x (j - c.args.from)) c.if-left-eq0.true ∙ bit_at-zero (j - c.args.from));
  set = λ l. absurd (omega (arith, l));
}

pub returns : goal.returns
returns c =
    let n = c.args.bits in
    let k = c.args.from in
    let left : ℕ = n / 2 ^ k in
    let some : 0 < left = let none = c.if-left-eq0.false in omega (arith, none) in
    let fits : left < 18446744073709551616 = let h = div-le_self n (2 ^ k) in let f = c.ranges.bits.fits in omega (arith, h, f) in
    let lowest = bit_at-trailing_zeros w64 left some fits in
    let at : ℕ = trailing_zeros w64 left in
    let same : (k + at) - k ≡ at = omega arith in
    let found : bit_at n (k + at) ≡ 1 = left_bit n k (k + at) (omega arith) ∙ (ap (bit_at left) same ∙ lowest.1) in record {
      from = omega arith;
      most = dite (dec_lt (k + at) 64) (λ l. omega (arith, l)) (λ far.
          absurd (omega (arith, bit_at_above n 64 (k + at) c.ranges.bits.fits (omega (arith, far)), found)));
      clear = λ j low high. left_bit n k j low ∙ lowest.2 (j - k) (omega (arith, low, high));
      set = λ l. found;
    }
