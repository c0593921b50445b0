use Rattle.ipcz_c.specs.HeldCells.{table_of}
use Rattle.ipcz_c.proofs.cells.ipcz_cell_close.Given as goal

-- the table of the cell
abbrev pub ghosts-close : goal.ghosts-close
ghosts-close a = record { table = table_of a.self.now.held.cell }
