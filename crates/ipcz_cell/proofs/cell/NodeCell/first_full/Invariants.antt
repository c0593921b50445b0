use Rattle.std.proofs.Common.{◌≤◌}
use Rattle.ipcz_cell.proofs.FirstActs.{LooksFull}
use Rattle.ipcz_cell.proofs.cell.NodeCell.first_full.Given as goal

-- the mailboxes so far are not full, and there is a sender for each look
abbrev pub invariant-loop-looked : goal.invariant-loop-looked
invariant-loop-looked g l = LooksFull g.F.FabricName.table l.fn.self l.self l.inbox l.from × (l.looked ≤ l.from) × (l.from ≤ 64)
