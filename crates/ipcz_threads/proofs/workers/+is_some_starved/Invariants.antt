use Rattle.std.proofs.Common.{length}
use Rattle.ipcz_threads.proofs.workers.+is_some_starved.Given as goal

abbrev pub decreases-is_some_starved : goal.decreases-is_some_starved
decreases-is_some_starved g l = length l.workers.now
