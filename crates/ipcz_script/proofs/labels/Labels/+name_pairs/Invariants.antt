use Rattle.ipcz_script.proofs.labels.Labels.+name_pairs.Given as goal

abbrev pub decreases-name_pairs : goal.decreases-name_pairs
decreases-name_pairs l = l.left
