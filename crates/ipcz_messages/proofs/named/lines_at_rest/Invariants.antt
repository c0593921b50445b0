use Rattle.std.proofs.Common.{◌≡◌, false}
use Rattle.std.specs.List.{AllWithin}
use Rattle.ipcz_messages.specs.Named.{stirs}
use Rattle.ipcz_messages.proofs.named.lines_at_rest.Given as goal

abbrev pub invariant-loop-i : goal.invariant-loop-i
invariant-loop-i l = AllWithin (λ x. stirs x.line ≡ false) l.lines 0 l.i
