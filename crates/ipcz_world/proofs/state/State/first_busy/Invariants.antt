use Rattle.ipcz_world.specs.Visiting.{AreIdle}
use Rattle.ipcz_world.proofs.state.State.first_busy.Given as goal

-- no node so far has an act
abbrev pub invariant-loop-n : goal.invariant-loop-n
invariant-loop-n l = AreIdle l.self.world l.from l.n
