use Rattle.std.proofs.Common.{length}
use Rattle.ipcz_node.proofs.state.NodeState.+are_held_once.Given as goal

abbrev pub decreases-are_held_once : goal.decreases-are_held_once
decreases-are_held_once l = length l.ends.now
