use Rattle.ipcz_cell.proofs.letting.act_step.Given as goal

-- the slot of the spare word
abbrev pub ghosts-leave_step : goal.ghosts-leave_step
ghosts-leave_step g a = record { slot = a.slot }
