use Rattle.ipcz_cell.proofs.mail.+turn_over.Given as goal

abbrev pub decreases-turn_over : goal.decreases-turn_over
decreases-turn_over l = l.n
