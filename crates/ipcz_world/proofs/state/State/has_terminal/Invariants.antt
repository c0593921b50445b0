use Rattle.std.proofs.Common.{◌≡◌, drop}
use Rattle.ipcz_world.specs.SettleLimit.{has_within}
use Rattle.ipcz_world.proofs.state.State.has_terminal.Given as goal

-- it is in none of the nodes so far
abbrev pub invariant-loop-n : goal.invariant-loop-n
invariant-loop-n l = has_within l.end (drop l.n l.self.world.nodes) ≡ has_within l.end l.self.world.nodes
