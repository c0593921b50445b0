use Rattle.std.proofs.Common.{◌≡◌, vec_len}
use Rattle.ipcz_messages.proofs.ends.Known.oppose.Given as goal

-- each router has its place
abbrev pub invariant-loop-word : goal.invariant-loop-word
invariant-loop-word l = vec_len l.self.ends ≡ vec_len l.fn.self.ends
