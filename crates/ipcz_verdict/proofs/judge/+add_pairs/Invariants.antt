use Rattle.ipcz_verdict.proofs.judge.+add_pairs.Given as goal

abbrev pub decreases-add_pairs : goal.decreases-add_pairs
decreases-add_pairs l = l.left
