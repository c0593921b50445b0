use Rattle.ipcz_fabric_tests.proofs.hubs.callers_and_workers_share_a_hub.Given as goal

abbrev pub ghosts-come_in_order : goal.ghosts-come_in_order
ghosts-come_in_order g a = record { table = a.blank }
