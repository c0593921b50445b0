use Rattle.std.proofs.Common.{◌+◌, ◌*◌}
use Rattle.ipcz_node.proofs.state.NodeState.+add_pairs.Given as goal

abbrev pub decreases-add_pairs : goal.decreases-add_pairs
decreases-add_pairs l = l.rows * 65 + l.left
