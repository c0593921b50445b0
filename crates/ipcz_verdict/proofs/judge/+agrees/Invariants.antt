use Rattle.std.proofs.Common.{length}
use Rattle.ipcz_verdict.proofs.judge.+agrees.Given as goal

abbrev pub decreases-agrees : goal.decreases-agrees
decreases-agrees l = length l.names.now
