use Rattle.ipcz_fabric_tests.proofs.closes.pairs_that_two_threads_close_are_gone.Given as goal

abbrev pub ghosts-left_over : goal.ghosts-left_over
ghosts-left_over g a = record { table = a.blank }
