use Rattle.std.proofs.Common.{◌≤◌, length}
use Rattle.std.specs.List.{All}
use Rattle.ipcz_messages.specs.Messages.{AreOnce, IsMessage}
use Rattle.ipcz_messages.proofs.messages.making.messages_with.Given as goal

abbrev pub invariant-loop-i : goal.invariant-loop-i
invariant-loop-i l = All (IsMessage l.lines) l.messages.items × AreOnce l.lines l.messages.items
    × (length l.messages.items ≤ length l.lines)
