use Rattle.ipcz_fabric_tests.proofs.batches.wrong_of_three.Given as goal

abbrev pub ghosts-run : goal.ghosts-run
ghosts-run a = record { table = a.blank }
