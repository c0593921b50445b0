use Rattle.std.proofs.Common.{◌-◌, ◌≤◌, ◌<◌, length}
use Rattle.std.specs.List.{All}
use Rattle.ipcz_places.specs.Values.{BeginsIn, MembersBegin}
use Rattle.ipcz_places.proofs.values.members.Given as goal

-- the members so far begin in the text, and so does the next one
abbrev pub invariant-walking : goal.invariant-walking
invariant-walking l = All (MembersBegin l.text) l.found.items × (l.from ≤ length l.text) × (l.from < length l.text → BeginsIn l.text l.from)

abbrev pub decreases-walking : goal.decreases-walking
decreases-walking l = length l.text - l.from
