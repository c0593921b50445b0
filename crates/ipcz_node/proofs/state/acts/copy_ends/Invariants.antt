use Rattle.std.proofs.Common.{◌≡◌, ◌≤◌, ◌+◌, ◌++◌, drop, length, vec_len, vec_capacity}
use Rattle.ipcz_node.proofs.state.acts.copy_ends.Given as goal

-- the ends so far are copied, and with those that are left it comes to all of them, for which there is room
abbrev pub invariant-loop-end : goal.invariant-loop-end
invariant-loop-end l =
    (l.copy.items ++ drop l.end-index l.ends ≡ l.fn.copy.items ++ l.ends) × (vec_len l.copy + length l.ends ≤ vec_capacity l.copy + l.end-index)
