use Rattle.ipcz_fabric_tests.proofs.opens.a_claim_by_itself_is_used_by_the_next_open.Given as goal

abbrev pub ghosts-claim_is_kept : goal.ghosts-claim_is_kept
ghosts-claim_is_kept g a = record { table = a.blank }
