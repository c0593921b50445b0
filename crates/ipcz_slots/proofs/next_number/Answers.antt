use Rattle.std.proofs.Common.{arith, ◌≡◌, ◌≤◌, ◌+◌, ◌%◌, ℕ}
use Rattle.ipcz_slots.proofs.NextNumber.{own_round, next_round}
use Rattle.ipcz_slots.proofs.next_number.Goals as goal
use Rattle.ipcz_slots.proofs.next_number.Goals.{then-first-slot, else-first-slot}

-- src/lib.rt:23:1
pub returns-then-skipped-left : goal.returns-then-skipped-left
returns-then-skipped-left c =
    let n : ℕ = c.args.count + c.if-first-slot.skipped in
    let is : (n % c.args.slots ≡ c.args.slot) × ((m : ℕ) → c.args.count ≤ m → m % c.args.slots ≡ c.args.slot → n ≤ m) = elim c.if-first-slot.branch [
      | then-first-slot w ↦ own_round c.args.count c.args.slot c.args.slots c.if-first-slot.skipped c.requires.inside w.if-first-slot.true w.skipped-is
      | else-first-slot w ↦ next_round c.args.count c.args.slot c.args.slots c.if-first-slot.skipped c.requires.inside w.if-first-slot.false w.skipped-is
    ] in let few = c.requires.count in let h = c.if-skipped-left.true in (omega (arith), omega (arith, h, few), is.0, is.1)

-- src/lib.rt:23:1
pub returns-else-skipped-left : goal.returns-else-skipped-left
returns-else-skipped-left c m up e =
    let n : ℕ = c.args.count + c.if-first-slot.skipped in
    let is : (n % c.args.slots ≡ c.args.slot) × ((m : ℕ) → c.args.count ≤ m → m % c.args.slots ≡ c.args.slot → n ≤ m) = elim c.if-first-slot.branch [
      | then-first-slot w ↦ own_round c.args.count c.args.slot c.args.slots c.if-first-slot.skipped c.requires.inside w.if-first-slot.true w.skipped-is
      | else-first-slot w ↦ next_round c.args.count c.args.slot c.args.slots c.if-first-slot.skipped c.requires.inside w.if-first-slot.false w.skipped-is
    ] in
    let few = c.requires.count in let h = is.1 m up e in let f = c.if-skipped-left.false in omega (arith, h, f, few)
