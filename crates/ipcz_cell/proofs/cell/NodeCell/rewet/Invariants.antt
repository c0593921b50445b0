use Rattle.ipcz_rule.specs.Steps.{wet_part}
use Rattle.ipcz_cell.specs.Outcomes.{touched}
use Rattle.ipcz_cell.proofs.cell.NodeCell.rewet.Given as goal

-- what the step tells
abbrev pub ghosts-wet_here : goal.ghosts-wet_here
ghosts-wet_here g a = record { tells = touched (wet_part a.serial) }
