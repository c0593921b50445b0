use Rattle.ipcz_cell.specs.Opens.{opened}
use Rattle.ipcz_cell.proofs.cell.NodeCell.word_open.Given as goal

abbrev pub ghosts-exchange_link : goal.ghosts-exchange_link
ghosts-exchange_link g a = record { tells = opened a.number }
