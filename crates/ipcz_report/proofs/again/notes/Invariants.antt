use Rattle.std.specs.List.{All}
use Rattle.ipcz_report.specs.Notes.{IsNote}
use Rattle.ipcz_report.proofs.again.notes.Given as goal

-- the remarks so far are such remarks
abbrev pub invariant-loop-i : goal.invariant-loop-i
invariant-loop-i l = All (IsNote l.text) l.notes.items
