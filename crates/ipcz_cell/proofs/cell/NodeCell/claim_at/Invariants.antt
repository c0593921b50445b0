use Rattle.ipcz_cell.specs.Opens.{open_claimed}
use Rattle.ipcz_cell.proofs.cell.NodeCell.claim_at.Given as goal

abbrev pub ghosts-claim_step : goal.ghosts-claim_step
ghosts-claim_step g a = record { tells = open_claimed g.F.FabricName.table.size a.count a.number }
