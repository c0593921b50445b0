use Rattle.ipcz_fabric_tests.proofs.cells.routers_of.Given as goal

abbrev pub ghosts-routers_after : goal.ghosts-routers_after
ghosts-routers_after a = record { table = a.blank }
