use Rattle.ipcz_cell.specs.Opens.{count_loaded}
use Rattle.ipcz_cell.proofs.cell.NodeCell.load_count.Given as goal

abbrev pub ghosts-load_step : goal.ghosts-load_step
ghosts-load_step g a = record { tells = count_loaded g.F.FabricName.table.size }
