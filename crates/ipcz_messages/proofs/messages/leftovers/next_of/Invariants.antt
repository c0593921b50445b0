use Rattle.std.proofs.Common.{◌≡◌, false}
use Rattle.std.specs.List.{AllWithin}
use Rattle.ipcz_messages.specs.Leftovers.{is_of}
use Rattle.ipcz_messages.proofs.messages.leftovers.next_of.Given as goal

abbrev pub invariant-loop-i : goal.invariant-loop-i
invariant-loop-i l = AllWithin (λ m. is_of l.node l.line m ≡ false) l.made l.from l.i
