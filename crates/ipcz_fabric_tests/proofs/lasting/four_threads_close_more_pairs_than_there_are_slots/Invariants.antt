use Rattle.ipcz_fabric_tests.proofs.lasting.four_threads_close_more_pairs_than_there_are_slots.Given as goal

abbrev pub ghosts-four_close : goal.ghosts-four_close
ghosts-four_close g a = record { table = a.blank }
