use Rattle.ipcz_fabric_tests.proofs.retries.workers_let_proxies_ask_again.Given as goal

abbrev pub ghosts-retried_by_workers : goal.ghosts-retried_by_workers
ghosts-retried_by_workers g a = record { table = a.blank }
