use Rattle.ipcz_cell.specs.Ending.{unprobed}
use Rattle.ipcz_cell.proofs.ending.unprobe_one.Given as goal

abbrev pub ghosts-unprobe : goal.ghosts-unprobe
ghosts-unprobe g a = record { tells = unprobed a.to }
