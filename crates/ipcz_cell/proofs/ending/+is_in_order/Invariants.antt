use Rattle.std.proofs.Common.{length}
use Rattle.ipcz_cell.proofs.ending.+is_in_order.Given as goal

abbrev pub decreases-is_in_order : goal.decreases-is_in_order
decreases-is_in_order g l = length l.cells.now
