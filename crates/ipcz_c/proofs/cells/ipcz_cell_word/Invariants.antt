use Rattle.ipcz_c.specs.HeldCells.{table_of}
use Rattle.ipcz_c.proofs.cells.ipcz_cell_word.Given as goal

-- the table of the cell
abbrev pub ghosts-word : goal.ghosts-word
ghosts-word a = record { table = table_of a.self.now.held.cell }
