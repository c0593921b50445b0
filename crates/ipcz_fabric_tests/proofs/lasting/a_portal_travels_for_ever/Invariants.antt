use Rattle.ipcz_fabric_tests.proofs.lasting.a_portal_travels_for_ever.Given as goal

abbrev pub ghosts-travelled : goal.ghosts-travelled
ghosts-travelled g a = record { table = a.blank }
