use Rattle.std.proofs.Common.{◌+◌}
use Rattle.ipcz_cell.specs.Outcomes.{loaded}
use Rattle.ipcz_cell.proofs.cell.NodeCell.load_at.Given as goal

abbrev pub ghosts-load_behind : goal.ghosts-load_behind
ghosts-load_behind g a = record { tells = loaded (g.F.FabricName.table.size + a.place) }
