use Rattle.std.proofs.Common.{◌≡◌, ◌≤◌, ◌+◌, length}
use Rattle.ipcz_base.specs.Limits.{no_number}
use Rattle.ipcz_node.specs.RoomyNodes.{AreLow}
use Rattle.ipcz_node.specs.Hands.{make_terminals}
use Rattle.ipcz_node.proofs.state.NodeState.make_terminals.Given as goal

-- the terminals so far are made, and with those that are left it comes to all of them, for which room, serials and numbers are enough
abbrev pub invariant-loop-moves : goal.invariant-loop-moves
invariant-loop-moves l =
    (make_terminals l.self.node l.sender l.moves ≡ make_terminals l.fn.self.node l.sender l.fn.moves) × (length l.moves ≤ l.self.room.routers) ×
    (l.self.node.next_router + length l.moves ≤ no_number) × AreLow l.moves

abbrev pub decreases-loop-moves : goal.decreases-loop-moves
decreases-loop-moves l = length l.moves
