use Rattle.std.proofs.Common.{◌+◌}
use Rattle.ipcz_cell.specs.Outcomes.{loaded}
use Rattle.ipcz_cell.proofs.twins.look.Given as goal

abbrev pub ghosts-load_step : goal.ghosts-load_step
ghosts-load_step g a = record { tells = loaded (g.F.FabricName.table.size + 0) }
