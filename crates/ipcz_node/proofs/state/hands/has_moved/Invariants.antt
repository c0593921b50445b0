use Rattle.std.proofs.Common.{◌≡◌, length}
use Rattle.ipcz_node.specs.Hands.{has_moved}
use Rattle.ipcz_node.proofs.state.hands.has_moved.Given as goal

-- no descriptor so far has the link, so the answer is that of those that are left
abbrev pub invariant-loop-moves : goal.invariant-loop-moves
invariant-loop-moves l = has_moved l.link l.moves ≡ has_moved l.link l.fn.moves

abbrev pub decreases-loop-moves : goal.decreases-loop-moves
decreases-loop-moves l = length l.moves
