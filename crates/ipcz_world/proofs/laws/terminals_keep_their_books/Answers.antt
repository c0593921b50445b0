use Rattle.ipcz_world.proofs.Whole.{terminals_keep_books}
use Rattle.ipcz_world.proofs.laws.terminals_keep_their_books.Goals as goal

pub returns : goal.returns
returns c = terminals_keep_books
