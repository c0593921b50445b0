use Rattle.std.proofs.Common.{length}
use Rattle.ipcz_script.proofs.events.+push_more.Given as goal

abbrev pub decreases-push_more : goal.decreases-push_more
decreases-push_more l = length l.ends.now
