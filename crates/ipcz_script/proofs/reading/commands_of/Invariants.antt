use Rattle.std.proofs.Common.{◌≡◌, [], map, drop, length}
use Rattle.std.specs.FinSet.{contains}
use Rattle.serde_json.specs.View.{view}
use Rattle.ipcz_script.specs.ScriptNames.{is_taken}
use Rattle.ipcz_script.specs.Scripts.{commands_from}
use Rattle.ipcz_script.proofs.reading.commands_of.Given as goal

-- the commands so far and those that are left are all of them, and the names are those that the commands so far opened
abbrev pub invariant-loop-value : goal.invariant-loop-value
invariant-loop-value l =
    (commands_from l.nodes l.commands.items (map view (drop l.value-index l.values)) ≡ commands_from l.nodes [] (map view l.values))
    × (contains l.opened ≡ is_taken l.commands.items)
    × (length l.commands.items ≡ l.value-index)
