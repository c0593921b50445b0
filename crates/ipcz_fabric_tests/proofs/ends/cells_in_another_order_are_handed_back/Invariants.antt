use Rattle.ipcz_fabric_tests.proofs.ends.cells_in_another_order_are_handed_back.Given as goal

abbrev pub ghosts-refused_first : goal.ghosts-refused_first
ghosts-refused_first g a = record { table = a.blank }
