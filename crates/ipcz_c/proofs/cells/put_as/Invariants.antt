use Rattle.ipcz_c.specs.HeldCells.{table_of}
use Rattle.ipcz_c.proofs.cells.put_as.Given as goal

-- the table of the cell
abbrev pub ghosts-put : goal.ghosts-put
ghosts-put a = record { table = table_of a.self.now.held.cell }
