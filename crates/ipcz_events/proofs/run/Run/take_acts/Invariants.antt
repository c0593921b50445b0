use Rattle.ipcz_events.proofs.Adding.{GoOn}
use Rattle.ipcz_events.proofs.run.Run.take_acts.Given as goal

abbrev pub invariant-loop-left : goal.invariant-loop-left
invariant-loop-left l = GoOn l.most l.who l.fn.self l.fn.out.items l.left l.self l.out.items

abbrev pub decreases-loop-left : goal.decreases-loop-left
decreases-loop-left l = l.left
