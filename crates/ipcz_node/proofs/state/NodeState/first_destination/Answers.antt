use Rattle.std.proofs.Common.{rules}
use Rattle.ipcz_node.proofs.Turns.{passed}
use Rattle.ipcz_node.proofs.state.NodeState.first_destination.Goals as goal

pub loop-to-preserved : goal.loop-to-preserved
loop-to-preserved c = passed _ c.loop-to.to _ _ c.loop-to-test.true (search rules) c.loop-to.invariant
