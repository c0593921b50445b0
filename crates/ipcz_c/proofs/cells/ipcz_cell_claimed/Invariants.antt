use Rattle.ipcz_c.specs.HeldCells.{table_of}
use Rattle.ipcz_c.proofs.cells.ipcz_cell_claimed.Given as goal

-- the table of the cell
abbrev pub ghosts-claimed : goal.ghosts-claimed
ghosts-claimed a = record { table = table_of a.self.now.held.cell }
