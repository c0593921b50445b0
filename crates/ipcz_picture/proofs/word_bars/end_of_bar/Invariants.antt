use Rattle.std.proofs.Common.{◌≡◌, ◌+◌, false}
use Rattle.std.specs.List.{AllWithin}
use Rattle.ipcz_picture.specs.Marks.{ends_bar}
use Rattle.ipcz_picture.proofs.word_bars.end_of_bar.Given as goal

abbrev pub invariant-loop-i : goal.invariant-loop-i
invariant-loop-i l = AllWithin (λ x. ends_bar l.column x.line ≡ false) l.lines (l.line + 1) l.i
