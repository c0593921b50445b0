use Rattle.std.proofs.Common.{◌≡◌, length}
use Rattle.ipcz_node.specs.Hands.{fit_moves}
use Rattle.ipcz_node.proofs.state.NodeState.fit_moves.Given as goal

-- the moves so far fit, so the answer is that of those that are left
abbrev pub invariant-loop-ends : goal.invariant-loop-ends
invariant-loop-ends l = fit_moves l.fn.self.node l.ends l.moves ≡ fit_moves l.fn.self.node l.fn.ends l.fn.moves

abbrev pub decreases-loop-ends : goal.decreases-loop-ends
decreases-loop-ends l = length l.moves
