use Rattle.std.proofs.Common.{◌≡◌, ◌≤◌, drop}
use Rattle.ipcz_node.specs.Node.{without_ends}
use Rattle.ipcz_node.proofs.held_ends.HeldEnds.remove_all.Given as goal

-- the ends so far are held no more, and with those that are left it comes to all of them
abbrev pub invariant-loop-end : goal.invariant-loop-end
invariant-loop-end l = (without_ends l.self.ends (drop l.end-index l.ends) ≡ without_ends l.fn.self.ends l.ends) × (l.fn.self.room ≤ l.self.room)
