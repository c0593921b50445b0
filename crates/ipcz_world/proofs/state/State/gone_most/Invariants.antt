use Rattle.std.proofs.Common.{◌≡◌, drop}
use Rattle.ipcz_world.proofs.Vocabulary.{higher, highest}
use Rattle.ipcz_world.specs.SettleLimit.{gone_at}
use Rattle.ipcz_world.proofs.state.State.gone_most.Given as goal

-- the highest is that of the nodes so far
abbrev pub invariant-loop-n : goal.invariant-loop-n
invariant-loop-n l = higher l.most (highest gone_at (drop l.n l.self.world.nodes)) ≡ highest gone_at l.self.world.nodes
