use Rattle.std.proofs.Common.{◌%◌, arith}
use Rattle.ipcz_picture.proofs.word_cells.source_of.Goals as goal

pub returns : goal.returns
returns c = (c.args.value % 256, omega arith, omega (arith, c.if-source-eq0.false))
