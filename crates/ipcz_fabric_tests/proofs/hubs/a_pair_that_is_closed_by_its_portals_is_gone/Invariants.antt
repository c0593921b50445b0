use Rattle.ipcz_fabric_tests.proofs.hubs.a_pair_that_is_closed_by_its_portals_is_gone.Given as goal

abbrev pub ghosts-left_over : goal.ghosts-left_over
ghosts-left_over g a = record { table = a.blank }
