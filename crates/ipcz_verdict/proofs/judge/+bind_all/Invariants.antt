use Rattle.std.proofs.Common.{length}
use Rattle.ipcz_verdict.proofs.judge.+bind_all.Given as goal

abbrev pub decreases-bind_all : goal.decreases-bind_all
decreases-bind_all l = length l.names.now
