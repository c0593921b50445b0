use Rattle.ipcz_fabric_tests.proofs.cells.first_wrong_of.Given as goal

abbrev pub ghosts-run : goal.ghosts-run
ghosts-run a = record { table = a.blank }
