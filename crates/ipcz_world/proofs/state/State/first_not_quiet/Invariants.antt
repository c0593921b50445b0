use Rattle.ipcz_world.specs.FastPath.{AreQuiet}
use Rattle.ipcz_world.proofs.state.State.first_not_quiet.Given as goal

-- each node so far is quiet
abbrev pub invariant-loop-n : goal.invariant-loop-n
invariant-loop-n l = AreQuiet l.self.world l.from l.n
