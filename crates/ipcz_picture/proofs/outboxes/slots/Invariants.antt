use Rattle.std.proofs.Common.{◌≡◌, length, vec_len}
use Rattle.ipcz_picture.proofs.outboxes.slots.Given as goal

-- each message has a place
abbrev pub invariant-loop-line : goal.invariant-loop-line
invariant-loop-line l = vec_len l.slots ≡ length l.messages
