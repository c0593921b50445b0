use Rattle.std.proofs.Common.{length}
use Rattle.ipcz_verdict.proofs.judge.+may_bind.Given as goal

abbrev pub decreases-may_bind : goal.decreases-may_bind
decreases-may_bind l = length l.names.now
