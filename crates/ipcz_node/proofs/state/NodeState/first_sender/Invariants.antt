use Rattle.std.proofs.Common.{◌≡◌, false, ◌-◌}
use Rattle.ipcz_base.specs.Indexed.{place_at}
use Rattle.ipcz_node.specs.Acts.{first_number, first_sender}
use Rattle.ipcz_node.proofs.state.NodeState.first_sender.Given as goal

abbrev pub invariant-loop-from : goal.invariant-loop-from
invariant-loop-from l = first_number (λ i. place_at false l.seen.full i) l.from (l.from-end - l.from) ≡ first_sender l.self.node l.seen
