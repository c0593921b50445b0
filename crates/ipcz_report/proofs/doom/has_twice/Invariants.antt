use Rattle.std.proofs.Common.{◌≡◌, drop}
use Rattle.ipcz_report.specs.Dooms.{has_twice}
use Rattle.ipcz_report.proofs.doom.has_twice.Given as goal

-- no name so far stands twice
abbrev pub invariant-loop-i : goal.invariant-loop-i
invariant-loop-i l = has_twice (drop l.i l.names) ≡ has_twice l.names
