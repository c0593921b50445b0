use Rattle.std.proofs.Common.{◌≡◌, ℕ, ◌<◌, []}
use Rattle.ipcz_verdict.specs.Searches.{left_of}
use Rattle.ipcz_verdict.proofs.search.is_none_left.Given as goal

abbrev pub invariant-loop-queue : goal.invariant-loop-queue
invariant-loop-queue l = (k : ℕ) → k < l.queue-index → left_of l.left k ≡ []
