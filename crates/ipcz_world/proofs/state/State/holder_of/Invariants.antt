use Rattle.std.proofs.Common.{◌≡◌, ◌-◌}
use Rattle.ipcz_world.proofs.Vocabulary.{node_at, holds_end, first_number}
use Rattle.ipcz_world.specs.Holding.{holder_of}
use Rattle.ipcz_world.proofs.state.State.holder_of.Given as goal

-- no node so far has a caller who holds the end
abbrev pub invariant-loop-n : goal.invariant-loop-n
invariant-loop-n l = first_number (λ i. holds_end (node_at l.self.world i) l.end) l.n (l.n-end - l.n) ≡ holder_of l.self.world l.end
