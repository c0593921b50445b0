use Rattle.std.proofs.Common.{length}
use Rattle.ipcz_threads.proofs.workers.+without_acts.Given as goal

abbrev pub decreases-without_acts : goal.decreases-without_acts
decreases-without_acts g l = length l.workers.now
