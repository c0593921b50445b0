use Rattle.std.proofs.Common.{length}
use Rattle.ipcz_cell.proofs.node_list.+place_of.Given as goal

abbrev pub decreases-place_of : goal.decreases-place_of
decreases-place_of l = length l.nodes.now
