use Rattle.ipcz_cell.specs.Outcomes.{posted}
use Rattle.ipcz_cell.proofs.cell.NodeCell.post_by.Given as goal

abbrev pub ghosts-post_here : goal.ghosts-post_here
ghosts-post_here g a = record { tells = posted g.F.FabricName.table a.to }
