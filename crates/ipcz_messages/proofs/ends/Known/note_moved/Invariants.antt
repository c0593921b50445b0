use Rattle.std.proofs.Common.{◌≡◌, vec_len}
use Rattle.ipcz_messages.proofs.ends.Known.note_moved.Given as goal

-- each router has its place
abbrev pub invariant-loop-naming : goal.invariant-loop-naming
invariant-loop-naming l = vec_len l.self.ends ≡ vec_len l.fn.self.ends
