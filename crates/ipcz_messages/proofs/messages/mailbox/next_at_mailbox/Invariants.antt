use Rattle.std.proofs.Common.{◌≡◌, ◌+◌, false}
use Rattle.std.specs.List.{AllWithin}
use Rattle.ipcz_messages.specs.Messages.{touches_mailbox}
use Rattle.ipcz_messages.proofs.messages.mailbox.next_at_mailbox.Given as goal

abbrev pub invariant-loop-i : goal.invariant-loop-i
invariant-loop-i l = AllWithin (λ x. touches_mailbox l.from l.to x.line ≡ false) l.lines (l.line + 1) l.i
