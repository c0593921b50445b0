use Rattle.ipcz_fabric_tests.proofs.lasting.a_table_whose_words_come_back_shows_none.Given as goal

abbrev pub ghosts-gives_no_world : goal.ghosts-gives_no_world
ghosts-gives_no_world g a = record { table = a.blank }
