use Rattle.ipcz_c.proofs.cells.ipcz_cells_create_lasting.Given as goal

-- the new table
abbrev pub ghosts-seat : goal.ghosts-seat
ghosts-seat a = record { table = a.blank }
