use Rattle.ipcz_fabric_tests.proofs.ends.lives.Given as goal

abbrev pub ghosts-lives_on : goal.ghosts-lives_on
ghosts-lives_on a = record { table = a.blank }
