use Rattle.std.proofs.Common.{◌≡◌, ◌≤◌, ◌+◌, length, vec_len, vec_capacity}
use Rattle.ipcz_base.specs.Limits.{no_number}
use Rattle.ipcz_node.specs.Sends.{move_ends}
use Rattle.ipcz_node.specs.RoomyNodes.{transfer}
use Rattle.ipcz_node.proofs.state.NodeState.move_ends.Given as goal

-- the terminals so far have moved, and with those that are left it comes to all of them, for which room and serials are enough
abbrev pub invariant-loop-ends : goal.invariant-loop-ends
invariant-loop-ends l =
    (move_ends (transfer l.self.node l.moves.items) l.to l.ends ≡ move_ends (transfer l.fn.self.node l.fn.moves.items) l.to l.fn.ends) ×
    (length l.ends ≤ l.self.room.links) × (vec_len l.moves + length l.ends ≤ vec_capacity l.moves) ×
    (l.self.node.next_peripheral + length l.ends ≤ no_number) × (l.self.room.outboxes ≡ l.fn.self.room.outboxes)

abbrev pub decreases-loop-ends : goal.decreases-loop-ends
decreases-loop-ends l = length l.ends
