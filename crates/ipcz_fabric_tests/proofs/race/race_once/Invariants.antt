use Rattle.ipcz_fabric_tests.proofs.race.race_once.Given as goal

abbrev pub ghosts-race : goal.ghosts-race
ghosts-race g a = record { table = a.blank }
