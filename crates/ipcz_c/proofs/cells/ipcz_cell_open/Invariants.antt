use Rattle.ipcz_c.specs.HeldCells.{table_of}
use Rattle.ipcz_c.proofs.cells.ipcz_cell_open.Given as goal

-- the table of the cell
abbrev pub ghosts-open : goal.ghosts-open
ghosts-open a = record { table = table_of a.self.now.held.cell }
