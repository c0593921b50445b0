use Rattle.std.proofs.Common.{◌≡◌, false, ◌-◌, ◌&&◌}
use Rattle.ipcz_base.specs.Indexed.{place_at}
use Rattle.ipcz_node.specs.Acts.{first_number, first_destination, has_mail_for}
use Rattle.ipcz_node.proofs.state.NodeState.first_destination.Given as goal

abbrev pub invariant-loop-to : goal.invariant-loop-to
invariant-loop-to l = first_number (λ i. has_mail_for l.self.node i && place_at false l.seen.empty i) l.to (l.to-end - l.to) ≡
    first_destination l.self.node l.seen
