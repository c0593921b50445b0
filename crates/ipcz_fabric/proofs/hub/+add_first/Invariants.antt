use Rattle.std.proofs.Common.{length}
use Rattle.ipcz_fabric.proofs.hub.+add_first.Given as goal

abbrev pub decreases-add_first : goal.decreases-add_first
decreases-add_first g l = length l.cells.now
