use Rattle.ipcz_threads.proofs.run.run_output.Given as goal

abbrev pub ghosts-transcript : goal.ghosts-transcript
ghosts-transcript g a = record { table = a.blank }
