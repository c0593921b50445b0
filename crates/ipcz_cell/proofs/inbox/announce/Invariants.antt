use Rattle.ipcz_cell.specs.Outcomes.{peeked, announced}
use Rattle.ipcz_cell.proofs.inbox.announce.Given as goal

abbrev pub ghosts-peek_here : goal.ghosts-peek_here
ghosts-peek_here g a = record { tells = peeked a.node a.to }

abbrev pub ghosts-set_here : goal.ghosts-set_here
ghosts-set_here g a = record { tells = announced a.to }
