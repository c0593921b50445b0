use Rattle.std.proofs.Common.{length}
use Rattle.ipcz_lines.proofs.line.words.+are_ends.Given as goal

abbrev pub decreases-are_ends : goal.decreases-are_ends
decreases-are_ends l = length l.text.now
