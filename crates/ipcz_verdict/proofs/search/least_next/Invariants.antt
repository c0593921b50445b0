use Rattle.ipcz_verdict.proofs.Counting.{IsLeast}
use Rattle.ipcz_verdict.proofs.search.least_next.Given as goal

abbrev pub invariant-loop-queue : goal.invariant-loop-queue
invariant-loop-queue l = IsLeast l.left l.queue-index l.least
