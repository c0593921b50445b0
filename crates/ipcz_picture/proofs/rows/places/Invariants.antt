use Rattle.std.proofs.Common.{◌≤◌, ◌*◌, ◌+◌, ◌-◌, length}
use Rattle.ipcz_picture.specs.Rows.{Follow}
use Rattle.ipcz_picture.proofs.rows.places.Given as goal

-- the lines so far have their places
abbrev pub invariant-placing : goal.invariant-placing
invariant-placing l = (l.first ≤ length l.lines) × (l.top ≤ 136 + 12294 * l.first) × Follow l.lines l.from 136 l.placed.items l.first l.top
    × (l.from + length l.placed.items ≤ l.first)

abbrev pub decreases-placing : goal.decreases-placing
decreases-placing l = length l.lines - l.first
