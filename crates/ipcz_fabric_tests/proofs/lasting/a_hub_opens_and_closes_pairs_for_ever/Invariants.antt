use Rattle.ipcz_fabric_tests.proofs.lasting.a_hub_opens_and_closes_pairs_for_ever.Given as goal

abbrev pub ghosts-closed_one_by_one : goal.ghosts-closed_one_by_one
ghosts-closed_one_by_one g a = record { table = a.blank }
