use Rattle.std.proofs.Common.{sym, ◌∙◌}
use Rattle.ipcz_node.proofs.Turns.{passed}
use Rattle.ipcz_node.proofs.state.NodeState.first_sender.Goals as goal

pub loop-from-preserved : goal.loop-from-preserved
loop-from-preserved c = passed _ c.loop-from.from _ _ c.loop-from-test.true (sym c.was_seen.ensures ∙ c.if-was_seen.false)
    c.loop-from.invariant
