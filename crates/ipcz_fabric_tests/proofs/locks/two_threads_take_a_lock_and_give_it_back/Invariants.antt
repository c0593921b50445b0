use Rattle.ipcz_fabric_tests.proofs.locks.two_threads_take_a_lock_and_give_it_back.Given as goal

abbrev pub ghosts-lock : goal.ghosts-lock
ghosts-lock g a = record { table = a.blank }
