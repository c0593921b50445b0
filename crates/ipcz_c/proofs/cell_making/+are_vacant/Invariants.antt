use Rattle.std.proofs.Common.{length}
use Rattle.ipcz_c.proofs.cell_making.+are_vacant.Given as goal

abbrev pub decreases-are_vacant : goal.decreases-are_vacant
decreases-are_vacant l = length l.handles.now
