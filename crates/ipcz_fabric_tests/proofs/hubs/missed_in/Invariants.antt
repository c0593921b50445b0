use Rattle.ipcz_fabric_tests.proofs.hubs.missed_in.Given as goal

abbrev pub ghosts-missed_on : goal.ghosts-missed_on
ghosts-missed_on g a = record { table = a.blank }
