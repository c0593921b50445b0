use Rattle.ipcz_script.proofs.Stepping.{GoesOn}
use Rattle.ipcz_script.proofs.session.take_turns.Given as goal

abbrev pub invariant-loop-left : goal.invariant-loop-left
invariant-loop-left l = GoesOn l.fn.count l.left l.node l.fn.world.world l.world.world l.turns.items

abbrev pub decreases-loop-left : goal.decreases-loop-left
decreases-loop-left l = l.left
