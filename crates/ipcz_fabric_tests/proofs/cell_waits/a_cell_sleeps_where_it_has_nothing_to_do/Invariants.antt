use Rattle.ipcz_fabric_tests.proofs.cell_waits.a_cell_sleeps_where_it_has_nothing_to_do.Given as goal

abbrev pub ghosts-first_sleeps : goal.ghosts-first_sleeps
ghosts-first_sleeps g a = record { table = a.blank }
