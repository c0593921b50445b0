use Rattle.ipcz_fabric_tests.proofs.batches.a_hub_goes_on_with_a_batch.Given as goal

abbrev pub ghosts-got_by_hub : goal.ghosts-got_by_hub
ghosts-got_by_hub g a = record { table = a.blank }
