use Rattle.ipcz_c.specs.HeldCells.{table_of}
use Rattle.ipcz_c.proofs.cells.ipcz_cell_acts_touching.Given as goal

-- the table of the cell
abbrev pub ghosts-acts : goal.ghosts-acts
ghosts-acts a = record { table = table_of a.self.now.held.cell }
