use Rattle.std.proofs.Common.{drop}
use Rattle.ipcz_base.specs.Totals.{total_list}
use Rattle.ipcz_world.specs.SettleLimit.{node_limit}
use Rattle.ipcz_world.proofs.code.Tallying.{IsTallied}
use Rattle.ipcz_world.proofs.state.State.settle_limit.Given as goal

-- the nodes so far are summed up
abbrev pub invariant-loop-n : goal.invariant-loop-n
invariant-loop-n l = IsTallied l.sum (total_list (node_limit l.self.world) (drop l.n l.self.world.nodes)) (total_list (node_limit l.self.world) l.self.world.nodes)
