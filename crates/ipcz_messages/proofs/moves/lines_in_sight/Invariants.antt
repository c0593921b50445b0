use Rattle.std.proofs.Common.{◌≡◌, false}
use Rattle.std.specs.List.{AllWithin}
use Rattle.ipcz_messages.specs.Messages.{is_settle}
use Rattle.ipcz_messages.proofs.moves.lines_in_sight.Given as goal

abbrev pub invariant-loop-i : goal.invariant-loop-i
invariant-loop-i l = AllWithin (λ x. is_settle x.line ≡ false) l.lines 0 l.i
