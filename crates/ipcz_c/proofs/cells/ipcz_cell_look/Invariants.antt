use Rattle.ipcz_c.specs.HeldCells.{table_of}
use Rattle.ipcz_c.proofs.cells.ipcz_cell_look.Given as goal

-- the table of the cell
abbrev pub ghosts-look : goal.ghosts-look
ghosts-look a = record { table = table_of a.self.now.held.cell }
