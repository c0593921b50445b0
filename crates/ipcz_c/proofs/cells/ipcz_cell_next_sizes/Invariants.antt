use Rattle.ipcz_c.specs.HeldCells.{table_of}
use Rattle.ipcz_c.proofs.cells.ipcz_cell_next_sizes.Given as goal

-- the table of the cell
abbrev pub ghosts-next_sizes : goal.ghosts-next_sizes
ghosts-next_sizes a = record { table = table_of a.self.now.held.cell }
