use Rattle.std.proofs.Common.{length}
use Rattle.ipcz_threads.proofs.workers.+holder_from.Given as goal

abbrev pub decreases-holder_from : goal.decreases-holder_from
decreases-holder_from g l = length l.workers.now
