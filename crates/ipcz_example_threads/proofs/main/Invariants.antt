use Rattle.ipcz_example_threads.proofs.main.Given as goal

abbrev pub ghosts-talk_by_cells : goal.ghosts-talk_by_cells
ghosts-talk_by_cells g a = record { table = a.blank }

abbrev pub ghosts-talk_by_hub : goal.ghosts-talk_by_hub
ghosts-talk_by_hub g a = record { table = a.blank }
