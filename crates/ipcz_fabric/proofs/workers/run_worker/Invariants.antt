use Rattle.ipcz_fabric.proofs.Working.{GoesOn}
use Rattle.ipcz_fabric.proofs.workers.run_worker.Given as goal

-- whatever is done from here on is done from the start on
abbrev pub invariant-loop-turns : goal.invariant-loop-turns
invariant-loop-turns g l = GoesOn g.W.Worker.asks g.W.Worker.takes g.W.Worker.ends l.limit l.fn.worker l.turns l.worker
