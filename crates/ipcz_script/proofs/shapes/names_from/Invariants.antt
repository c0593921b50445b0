use Rattle.std.proofs.Common.{◌≡◌, map, drop}
use Rattle.serde_json.specs.View.{view}
use Rattle.ipcz_script.specs.Each.{each_of}
use Rattle.ipcz_script.specs.Shapes.{name_in}
use Rattle.ipcz_script.proofs.Each.{behind}
use Rattle.ipcz_script.proofs.shapes.names_from.Given as goal

-- what the values that are left give, behind the names so far, is what all of them give
abbrev pub invariant-loop-value : goal.invariant-loop-value
invariant-loop-value l =
    behind l.names.items (each_of name_in (map view (drop l.value-index l.values))) ≡ each_of name_in (map view l.values)
