use Rattle.std.proofs.Common.{◌≡◌, drop}
use Rattle.ipcz_world.proofs.Vocabulary.{higher}
use Rattle.ipcz_world.specs.SettleLimit.{put_within}
use Rattle.ipcz_world.proofs.state.State.put_count.Given as goal

-- the count is that of the nodes so far
abbrev pub invariant-loop-n : goal.invariant-loop-n
invariant-loop-n l = higher l.count (put_within l.end (drop l.n l.self.world.nodes)) ≡ put_within l.end l.self.world.nodes
