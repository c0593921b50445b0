use Rattle.std.proofs.Common.{◌≡◌, vec_len}
use Rattle.ipcz_messages.proofs.ends.Known.note_first.Given as goal

-- each router has its place
abbrev pub invariant-loop-index : goal.invariant-loop-index
invariant-loop-index l = vec_len l.self.ends ≡ vec_len l.fn.self.ends
