use Rattle.ipcz_cell.specs.Outcomes.{handed, touched}
use Rattle.ipcz_cell.specs.Parts.{handed_part}
use Rattle.ipcz_cell.proofs.mail.leave_slot.Given as goal

abbrev pub ghosts-hand_here : goal.ghosts-hand_here
ghosts-hand_here g a = record { tells = handed a.from a.source }

abbrev pub ghosts-hand_on_here : goal.ghosts-hand_on_here
ghosts-hand_on_here g a = record { tells = touched (handed_part a.from a.source) }
