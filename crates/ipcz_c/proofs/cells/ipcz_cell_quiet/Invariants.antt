use Rattle.ipcz_c.specs.HeldCells.{table_of}
use Rattle.ipcz_c.proofs.cells.ipcz_cell_quiet.Given as goal

-- the table of the cell
abbrev pub ghosts-quiet : goal.ghosts-quiet
ghosts-quiet a = record { table = table_of a.self.now.held.cell }
