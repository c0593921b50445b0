use Rattle.std.proofs.Common.{◌≡◌, length, vec_len}
use Rattle.ipcz_messages.proofs.ends.ends.Given as goal

-- each router has its place
abbrev pub invariant-loop-naming : goal.invariant-loop-naming
invariant-loop-naming l = vec_len l.known.ends ≡ length l.routers

abbrev pub invariant-loop-read : goal.invariant-loop-read
invariant-loop-read l = vec_len l.known.ends ≡ length l.routers

abbrev pub invariant-loop-message : goal.invariant-loop-message
invariant-loop-message l = vec_len l.known.ends ≡ length l.routers
