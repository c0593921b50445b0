use Rattle.std.proofs.Common.{◌-◌, ◌≤◌, ◌<◌, length}
use Rattle.std.specs.List.{All}
use Rattle.ipcz_places.specs.Values.{BeginsIn}
use Rattle.ipcz_places.proofs.values.items.Given as goal

-- the values so far begin in the text, and so does the next one
abbrev pub invariant-walking : goal.invariant-walking
invariant-walking l = All (BeginsIn l.text) l.starts.items × (l.from ≤ length l.text) × (l.from < length l.text → BeginsIn l.text l.from)

abbrev pub decreases-walking : goal.decreases-walking
decreases-walking l = length l.text - l.from
