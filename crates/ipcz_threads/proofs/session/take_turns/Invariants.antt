use Rattle.ipcz_threads.proofs.Turning.{GoesOn}
use Rattle.ipcz_threads.proofs.session.take_turns.Given as goal

abbrev pub invariant-loop-left : goal.invariant-loop-left
invariant-loop-left g l = GoesOn g.F.FabricName.table l.fn.count l.left l.node l.fn.workers l.workers l.turns.items

abbrev pub decreases-loop-left : goal.decreases-loop-left
decreases-loop-left g l = l.left
