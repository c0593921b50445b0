use Rattle.ipcz_cell.specs.Outcomes.{touched}
use Rattle.ipcz_cell.specs.Parts.{got_part}
use Rattle.ipcz_cell.proofs.cell.NodeCell.get.Given as goal

abbrev pub ghosts-get_here : goal.ghosts-get_here
ghosts-get_here g a = record { tells = touched (got_part a.at) }
