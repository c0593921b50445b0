use Rattle.std.proofs.Common.{◌≡◌, length}
use Rattle.std.specs.List.{All}
use Rattle.ipcz_messages.specs.Messages.{AreOnce, IsMessage}
use Rattle.ipcz_messages.proofs.messages.leftovers.explain.Given as goal

abbrev pub invariant-loop-index : goal.invariant-loop-index
invariant-loop-index l = All (IsMessage l.lines) l.messages.items × AreOnce l.lines l.messages.items
    × (length l.messages.items ≡ length l.fn.messages.items)
