use Rattle.ipcz_cell.specs.Mails.{looked_on_part}
use Rattle.ipcz_cell.specs.Outcomes.{touched}
use Rattle.ipcz_cell.proofs.cell.NodeCell.look_on.Given as goal

abbrev pub ghosts-look_on_here : goal.ghosts-look_on_here
ghosts-look_on_here g a = record { tells = touched (looked_on_part a.from) }
