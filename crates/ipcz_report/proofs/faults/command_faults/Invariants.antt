use Rattle.std.proofs.Common.{◌≡◌, ◌+◌, List, drop, map}
use Rattle.std.specs.FinSet.{contains}
use Rattle.serde_json.specs.View.{view}
use Rattle.ipcz_script.specs.declared.command.Command.{Command}
use Rattle.ipcz_script.specs.ScriptNames.{is_taken}
use Rattle.ipcz_report.proofs.Judged.{Continues}
use Rattle.ipcz_report.proofs.faults.command_faults.Given as goal

-- the faults of the values that are left, behind those so far, are the faults of all; and the names are those that the commands so far opened
abbrev pub invariant-loop-value : goal.invariant-loop-value
invariant-loop-value l =
    (l.number ≡ l.value-index + 1)
    × (before : List Command) × (contains l.opened ≡ is_taken before)
    × Continues l.nodes before l.number (map view (drop l.value-index l.values)) (map view l.values) l.faults.items
