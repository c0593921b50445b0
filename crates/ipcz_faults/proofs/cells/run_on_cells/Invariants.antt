use Rattle.ipcz_faults.proofs.cells.run_on_cells.Given as goal

abbrev pub ghosts-run_on : goal.ghosts-run_on
ghosts-run_on a = record { table = a.blank }
