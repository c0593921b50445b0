use Rattle.std.proofs.Common.{◌≡◌, false, ◌-◌}
use Rattle.ipcz_world.proofs.Vocabulary.{place_at, first_number, seen_at}
use Rattle.ipcz_world.proofs.state.State.first_sender.Given as goal

-- none so far has a full mailbox
abbrev pub invariant-loop-from : goal.invariant-loop-from
invariant-loop-from l = first_number (λ i. place_at false (seen_at l.self.world l.n).full i) l.from (l.self.world.count - l.from) ≡
    first_number (λ i. place_at false (seen_at l.self.world l.n).full i) 0 l.self.world.count
