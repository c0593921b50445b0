use Rattle.ipcz_fabric_tests.proofs.lasting.a_request_with_a_portal_for_its_answer_works_for_ever.Given as goal

abbrev pub ghosts-claimed_by_requests : goal.ghosts-claimed_by_requests
ghosts-claimed_by_requests g a = record { table = a.blank }
