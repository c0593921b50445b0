use Rattle.ipcz_fabric_tests.proofs.getters.wakes.Given as goal

abbrev pub ghosts-wakes_of : goal.ghosts-wakes_of
ghosts-wakes_of g a = record { table = a.blank }
