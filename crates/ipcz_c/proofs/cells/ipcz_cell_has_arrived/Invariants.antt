use Rattle.ipcz_c.specs.HeldCells.{table_of}
use Rattle.ipcz_c.proofs.cells.ipcz_cell_has_arrived.Given as goal

-- the table of the cell
abbrev pub ghosts-has_arrived : goal.ghosts-has_arrived
ghosts-has_arrived a = record { table = table_of a.self.now.held.cell }
