use Rattle.std.specs.List.{AllWithin}
use Rattle.ipcz_picture.specs.Rows.{IsIdle}
use Rattle.ipcz_picture.proofs.rows.idle_end.Given as goal

-- the lines up to here are idle
abbrev pub invariant-loop-i : goal.invariant-loop-i
invariant-loop-i l = AllWithin IsIdle l.lines l.first l.i
