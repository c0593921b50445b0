use Rattle.ipcz_c.specs.HeldCells.{table_of}
use Rattle.ipcz_c.proofs.cells.ipcz_cell_holds.Given as goal

-- the table of the cell
abbrev pub ghosts-holds : goal.ghosts-holds
ghosts-holds a = record { table = table_of a.self.now.held.cell }
