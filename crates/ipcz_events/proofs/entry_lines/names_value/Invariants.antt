use Rattle.std.proofs.Common.{◌≡◌, ◌++◌, drop, map}
use Rattle.serde_json.specs.Data.{string}
use Rattle.serde_json.specs.View.{view}
use Rattle.ipcz_events.proofs.entry_lines.names_value.Given as goal

-- the values so far, and those of the names that are left, are all of them
abbrev pub invariant-loop-name : goal.invariant-loop-name
invariant-loop-name l = map view l.values.items ++ map string (drop l.name-index l.names) ≡ map string l.names
