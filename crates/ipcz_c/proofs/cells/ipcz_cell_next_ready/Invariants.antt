use Rattle.ipcz_c.specs.HeldCells.{table_of}
use Rattle.ipcz_c.proofs.cells.ipcz_cell_next_ready.Given as goal

-- the table of the cell
abbrev pub ghosts-ready_from : goal.ghosts-ready_from
ghosts-ready_from a = record { table = table_of a.self.now.held.cell }
