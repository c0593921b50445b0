use Rattle.ipcz_fabric_tests.proofs.lasting.two_threads_close_more_pairs_than_there_are_slots.Given as goal

abbrev pub ghosts-threads_close : goal.ghosts-threads_close
ghosts-threads_close g a = record { table = a.blank }
