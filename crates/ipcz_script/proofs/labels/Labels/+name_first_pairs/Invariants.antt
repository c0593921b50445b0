use Rattle.ipcz_script.proofs.labels.Labels.+name_first_pairs.Given as goal

abbrev pub decreases-name_first_pairs : goal.decreases-name_first_pairs
decreases-name_first_pairs l = l.left
