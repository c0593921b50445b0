use Rattle.std.proofs.Common.{◌≤◌, length}
use Rattle.ipcz_messages.specs.Closes.{AreToldBy}
use Rattle.ipcz_messages.proofs.closes.closes.Given as goal

-- each line so far tells one close at most, and each close is told by its line
abbrev pub invariant-loop-line : goal.invariant-loop-line
invariant-loop-line l = (length l.closed.items ≤ l.line) × AreToldBy l.lines l.closed.items
