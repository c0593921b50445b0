use Rattle.ipcz_cell.specs.Outcomes.{touched}
use Rattle.ipcz_rule.specs.Steps.{close_part}
use Rattle.ipcz_cell.proofs.cell.NodeCell.close.Given as goal

abbrev pub ghosts-close_here : goal.ghosts-close_here
ghosts-close_here g a = record { tells = touched (close_part a.at) }
