use Rattle.ipcz_cell.specs.Outcomes.{noting}
use Rattle.ipcz_cell.proofs.cell.NodeCell.note.Given as goal

abbrev pub ghosts-write_here : goal.ghosts-write_here
ghosts-write_here g a = record { tells = noting g.C.CallName.call }
