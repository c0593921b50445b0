use Rattle.std.proofs.Common.{◌≡◌, drop, map, is_some}
use Rattle.serde_json.specs.View.{view}
use Rattle.ipcz_script.specs.Each.{each_of}
use Rattle.ipcz_script.specs.Shapes.{name_in}
use Rattle.ipcz_report.proofs.judging.first_other.Given as goal

-- the values so far are names
abbrev pub invariant-loop-i : goal.invariant-loop-i
invariant-loop-i l =
    is_some (each_of name_in (map view (drop l.i l.values))) ≡ is_some (each_of name_in (map view l.values))
