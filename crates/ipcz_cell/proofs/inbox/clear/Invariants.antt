use Rattle.ipcz_cell.specs.Outcomes.{peeked, cleared}
use Rattle.ipcz_cell.proofs.inbox.clear.Given as goal

abbrev pub ghosts-peek_here : goal.ghosts-peek_here
ghosts-peek_here g a = record { tells = peeked a.node a.node }

abbrev pub ghosts-clear_here : goal.ghosts-clear_here
ghosts-clear_here g a = record { tells = cleared }
