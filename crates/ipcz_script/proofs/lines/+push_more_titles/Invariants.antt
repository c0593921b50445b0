use Rattle.std.proofs.Common.{length}
use Rattle.ipcz_script.proofs.lines.+push_more_titles.Given as goal

abbrev pub decreases-push_more_titles : goal.decreases-push_more_titles
decreases-push_more_titles l = length l.ends.now
