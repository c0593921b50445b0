use Rattle.ipcz_cell.proofs.TurnChains.{IsUnderWay}
use Rattle.ipcz_cell.proofs.cell.NodeCell.acts_by.Given as goal

-- so many turns have been taken, and the nodes that they touch were added
abbrev pub invariant-loop-taken : goal.invariant-loop-taken
invariant-loop-taken g l = IsUnderWay g.F.FabricName.table l.fn.self l.fn.touched l.taken l.touched l.self
