use Rattle.std.proofs.Common.{◌≡◌, ◌+◌, ℕ, [], length}
use Rattle.ipcz_verdict.specs.Searches.{left_of}
use Rattle.ipcz_verdict.proofs.search.Logs.new.Given as goal

abbrev pub invariant-loop-lacking : goal.invariant-loop-lacking
invariant-loop-lacking l = record { counted : length l.queues.items + l.lacking ≡ 64; none : (k : ℕ) → left_of l.queues.items k ≡ [] }

abbrev pub decreases-loop-lacking : goal.decreases-loop-lacking
decreases-loop-lacking l = l.lacking
