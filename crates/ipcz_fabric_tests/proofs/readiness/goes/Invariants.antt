use Rattle.ipcz_fabric_tests.proofs.readiness.goes.Given as goal

abbrev pub ghosts-goes_well : goal.ghosts-goes_well
ghosts-goes_well g a = record { table = a.blank }
