use Rattle.ipcz_fabric_tests.proofs.owned.two_threads_own_a_cell_each.Given as goal

abbrev pub ghosts-talk : goal.ghosts-talk
ghosts-talk g a = record { table = a.blank }
