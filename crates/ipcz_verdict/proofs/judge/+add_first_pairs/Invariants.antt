use Rattle.ipcz_verdict.proofs.judge.+add_first_pairs.Given as goal

abbrev pub decreases-add_first_pairs : goal.decreases-add_first_pairs
decreases-add_first_pairs l = l.left
