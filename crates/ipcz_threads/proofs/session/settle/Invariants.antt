use Rattle.std.proofs.Common.{◌≡◌, length}
use Rattle.ipcz_threads.proofs.Settling.{GoesOn}
use Rattle.ipcz_threads.proofs.session.settle.Given as goal

abbrev pub invariant-loop-left : goal.invariant-loop-left
invariant-loop-left g l = GoesOn g.G.Gate.answers g.F.FabricName.table l.limit l.left l.fn.workers l.workers × (length l.workers ≡ l.count)

abbrev pub decreases-loop-left : goal.decreases-loop-left
decreases-loop-left g l = l.left
