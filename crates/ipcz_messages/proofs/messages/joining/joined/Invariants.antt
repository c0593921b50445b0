use Rattle.std.proofs.Common.{◌≤◌, length}
use Rattle.ipcz_messages.specs.Joining.{AreJoined}
use Rattle.ipcz_messages.proofs.messages.joining.joined.Given as goal

-- each line so far made one message at most
abbrev pub invariant-loop-i : goal.invariant-loop-i
invariant-loop-i l = AreJoined l.lines l.i l.messages.items × (length l.messages.items ≤ l.i)
