use Rattle.std.proofs.Common.{◌-◌, length}
use Rattle.ipcz_places.specs.Walks.{IsWalk}
use Rattle.ipcz_places.proofs.walk.json_fault.Given as goal

-- the walk so far is one of the text
abbrev pub invariant-walking : goal.invariant-walking
invariant-walking l = IsWalk l.text l.walk

abbrev pub decreases-walking : goal.decreases-walking
decreases-walking l = length l.text - l.walk.at
