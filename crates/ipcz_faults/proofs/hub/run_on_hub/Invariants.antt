use Rattle.ipcz_faults.proofs.hub.run_on_hub.Given as goal

abbrev pub ghosts-run_on : goal.ghosts-run_on
ghosts-run_on g a = record { table = a.blank }
