use Rattle.std.proofs.Common.{◌≤◌, length}
use Rattle.ipcz_messages.proofs.calls.calls.Given as goal

-- each line so far is one call at most
abbrev pub invariant-loop-line : goal.invariant-loop-line
invariant-loop-line l = length l.calls.items ≤ l.line
