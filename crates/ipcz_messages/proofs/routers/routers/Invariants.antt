use Rattle.std.proofs.Common.{◌≤◌, length}
use Rattle.ipcz_messages.proofs.routers.routers.Given as goal

-- each line so far named one new router at most
abbrev pub invariant-loop-i : goal.invariant-loop-i
invariant-loop-i l = length l.routers.items ≤ l.i
