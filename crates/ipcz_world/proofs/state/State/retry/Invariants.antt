use Rattle.ipcz_world.proofs.code.Retrying.{IsRetriedBelow}
use Rattle.ipcz_world.proofs.state.State.retry.Given as goal

-- the nodes so far have none that is dry
abbrev pub invariant-loop-n : goal.invariant-loop-n
invariant-loop-n l = IsRetriedBelow l.fn.self.world l.n l.told l.self.world
