use Rattle.std.proofs.Common.{◌≡◌, length}
use Rattle.ipcz_messages.proofs.messages.births.note_births.Given as goal

-- the routers are as many as before
abbrev pub invariant-loop-moved : goal.invariant-loop-moved
invariant-loop-moved l = length l.routers.items ≡ length l.fn.routers.items
