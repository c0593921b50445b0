use Rattle.ipcz_c.specs.HeldCells.{table_of}
use Rattle.ipcz_c.proofs.cells.ipcz_cell_node.Given as goal

-- the table of the cell
abbrev pub ghosts-node : goal.ghosts-node
ghosts-node a = record { table = table_of a.self.now.held.cell }
