use Rattle.std.proofs.Common.{◌-◌, ◌≤◌}
use Rattle.ipcz_places.specs.Places.{IsPlace}
use Rattle.ipcz_places.proofs.place.ahead.Given as goal

-- the place so far is one of the text, and not behind the offset
abbrev pub invariant-going : goal.invariant-going
invariant-going l = IsPlace l.text l.place × (l.place.offset ≤ l.offset)

abbrev pub decreases-going : goal.decreases-going
decreases-going l = l.offset - l.place.offset
