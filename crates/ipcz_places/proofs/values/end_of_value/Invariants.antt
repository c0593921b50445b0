use Rattle.std.proofs.Common.{◌-◌, ◌≤◌, ◌<◌, length}
use Rattle.ipcz_places.proofs.values.end_of_value.Given as goal

-- the end so far is within the text
abbrev pub invariant-passing : goal.invariant-passing
invariant-passing l = (l.from < length l.text) × (l.from ≤ l.end) × (l.end ≤ length l.text)

abbrev pub decreases-passing : goal.decreases-passing
decreases-passing l = length l.text - l.end
