use Rattle.std.proofs.Common.{◌≡◌, false, ◌-◌, ◌&&◌}
use Rattle.ipcz_world.proofs.Vocabulary.{place_at, node_at, first_number, has_mail_for, seen_at}
use Rattle.ipcz_world.proofs.state.State.first_destination.Given as goal

-- none so far waits for a message and has its mailbox empty
abbrev pub invariant-loop-to : goal.invariant-loop-to
invariant-loop-to l = first_number (λ i. has_mail_for (node_at l.self.world l.n) i && place_at false (seen_at l.self.world l.n).empty i) l.to
    (l.self.world.count - l.to) ≡
    first_number (λ i. has_mail_for (node_at l.self.world l.n) i && place_at false (seen_at l.self.world l.n).empty i) 0 l.self.world.count
