use Rattle.ipcz_cell.proofs.LockTries.{try_told}
use Rattle.ipcz_cell.proofs.cell.NodeCell.word_try_lock.Goals as goal

pub returns : goal.returns
returns g c = try_told _ _ _ _ _ c.in_ok-tried.ensures
