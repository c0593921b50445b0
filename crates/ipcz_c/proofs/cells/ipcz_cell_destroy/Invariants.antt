use Rattle.ipcz_c.specs.HeldCells.{table_of}
use Rattle.ipcz_c.proofs.cells.ipcz_cell_destroy.Given as goal

-- the table of the cell
abbrev pub ghosts-give_up : goal.ghosts-give_up
ghosts-give_up a = record { table = table_of a.self.now.held.cell }
