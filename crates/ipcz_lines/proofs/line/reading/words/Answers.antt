use Rattle.ipcz_lines.proofs.Parting.{words_line}
use Rattle.ipcz_lines.proofs.line.reading.words.Goals as goal

pub returns-then-are_words : goal.returns-then-are_words
returns-then-are_words c = words_line c.args.bytes.now (c.are_words.ensures.0 c.if-are_words.true)
