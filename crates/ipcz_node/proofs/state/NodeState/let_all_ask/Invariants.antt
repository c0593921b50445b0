use Rattle.std.proofs.Common.{◌-◌, ◌^◌}
use Rattle.ipcz_node.proofs.Asking.{IsAskedTo}
use Rattle.ipcz_node.proofs.state.NodeState.let_all_ask.Given as goal

abbrev pub invariant-loop-serial : goal.invariant-loop-serial
invariant-loop-serial l = IsAskedTo l.fn.self.node l._end l.count l.from l.self.node

abbrev pub decreases-loop-serial : goal.decreases-loop-serial
decreases-loop-serial l = 2 ^ 64 - l.from
