use Rattle.std.proofs.Common.{◌≤◌}
use Rattle.ipcz_places.proofs.values.character_start.Given as goal

-- the start so far lies between the two offsets
abbrev pub invariant-backing : goal.invariant-backing
invariant-backing l = (l.from ≤ l.start) × (l.start ≤ l.end)

abbrev pub decreases-backing : goal.decreases-backing
decreases-backing l = l.start
