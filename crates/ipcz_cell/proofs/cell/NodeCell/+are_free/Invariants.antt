use Rattle.std.proofs.Common.{◌-◌}
use Rattle.ipcz_cell.proofs.cell.NodeCell.+are_free.Given as goal

abbrev pub decreases-are_free : goal.decreases-are_free
decreases-are_free g l = g.F.FabricName.table.count - l.from
