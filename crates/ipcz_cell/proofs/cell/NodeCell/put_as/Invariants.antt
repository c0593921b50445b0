use Rattle.ipcz_cell.specs.Outcomes.{touched}
use Rattle.ipcz_rule.specs.Steps.{put_part}
use Rattle.ipcz_cell.proofs.cell.NodeCell.put_as.Given as goal

abbrev pub ghosts-put_here : goal.ghosts-put_here
ghosts-put_here g a = record { tells = touched (put_part a.at a.bytes a.ends) }
