use Rattle.std.proofs.Common.{◌≡◌, drop}
use Rattle.ipcz_world.proofs.Vocabulary.{higher, highest}
use Rattle.ipcz_world.specs.SettleLimit.{gone_message}
use Rattle.ipcz_world.proofs.state.limits.gone_in.Given as goal

-- the highest is that of the messages so far
abbrev pub invariant-loop-i : goal.invariant-loop-i
invariant-loop-i l = higher l.most (highest gone_message (drop l.i l.queue.messages)) ≡ highest gone_message l.queue.messages
