use Rattle.ipcz_c.specs.HeldCells.{table_of}
use Rattle.ipcz_c.proofs.cells.ipcz_cell_retry.Given as goal

-- the table of the cell
abbrev pub ghosts-retry : goal.ghosts-retry
ghosts-retry a = record { table = table_of a.self.now.held.cell }
