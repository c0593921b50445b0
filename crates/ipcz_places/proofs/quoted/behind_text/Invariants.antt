use Rattle.std.proofs.Common.{◌-◌, ◌≤◌, ◌<◌, length}
use Rattle.ipcz_places.specs.Faults.{StandsAt}
use Rattle.ipcz_places.proofs.quoted.behind_text.Given as goal

-- the offset so far is behind the quotation mark and within the text
abbrev pub invariant-reading : goal.invariant-reading
invariant-reading l = StandsAt l.text l.quote 34 × (l.quote < l.at) × (l.at ≤ length l.text)

abbrev pub decreases-reading : goal.decreases-reading
decreases-reading l = length l.text - l.at
