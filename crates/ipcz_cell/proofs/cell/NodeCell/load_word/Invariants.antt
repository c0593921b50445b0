use Rattle.ipcz_cell.specs.Opens.{word_loaded}
use Rattle.ipcz_cell.proofs.cell.NodeCell.load_word.Given as goal

abbrev pub ghosts-load_link : goal.ghosts-load_link
ghosts-load_link g a = record { tells = word_loaded a.number }
