use Rattle.std.proofs.Common.{◌≡◌, ◌*◌, ◌%◌, ◌^◌, ap, sym, subst, ◌<◌, arith, ℕ}
use Rattle.std.specs.Int.{bit_at, w64}
use Rattle.std.proofs.lemmas.Nat.{one_shl, pow_below}
use Rattle.std.proofs.lemmas.Nat.Bits.{bit_at_not, bit_at-pow_other}
use Rattle.ipcz_cell.proofs.inbox.all_but.Goals as goal

pub returns : goal.returns
returns c = record {
  others = λ j low apart.
      let k = c.args.node in
      let one : 1 * 2 ^ k % 18446744073709551616 ≡ 2 ^ k = one_shl k 64 c.requires in
      let fits : 1 * 2 ^ k % 18446744073709551616 < 18446744073709551616 = subst (λ (n : ℕ). n < 18446744073709551616) (sym one) (pow_below k 64 c.requires) in
      omega (arith, bit_at_not w64 (1 * 2 ^ k % 18446744073709551616) j fits low, ap (λ (n : ℕ). bit_at n j) one, bit_at-pow_other k j apart);
}
