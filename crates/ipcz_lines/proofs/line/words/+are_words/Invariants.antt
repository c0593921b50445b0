use Rattle.std.proofs.Common.{length}
use Rattle.ipcz_lines.proofs.line.words.+are_words.Given as goal

abbrev pub decreases-are_words : goal.decreases-are_words
decreases-are_words l = length l.text.now
