use Rattle.ipcz_fabric_tests.proofs.retries.a_proxy_without_a_slot_asks_again.Given as goal

abbrev pub ghosts-answered : goal.ghosts-answered
ghosts-answered g a = record { table = a.blank }
