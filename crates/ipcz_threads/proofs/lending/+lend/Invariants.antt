use Rattle.std.proofs.Common.{length}
use Rattle.ipcz_threads.proofs.lending.+lend.Given as goal

abbrev pub decreases-lend : goal.decreases-lend
decreases-lend g l = length l.gates.now
