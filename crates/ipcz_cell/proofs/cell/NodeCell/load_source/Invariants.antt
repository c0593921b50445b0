use Rattle.ipcz_cell.specs.Outcomes.{sourced}
use Rattle.ipcz_cell.proofs.cell.NodeCell.load_source.Given as goal

abbrev pub ghosts-source_here : goal.ghosts-source_here
ghosts-source_here g a = record { tells = sourced a.old a.from }
