use Rattle.ipcz_fabric_tests.proofs.portals.holds.Given as goal

abbrev pub ghosts-looks_on : goal.ghosts-looks_on
ghosts-looks_on g a = record { table = a.blank }
