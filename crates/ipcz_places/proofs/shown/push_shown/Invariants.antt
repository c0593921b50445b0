use Rattle.std.proofs.Common.{◌-◌, ◌≤◌, length}
use Rattle.ipcz_places.specs.Shown.{AddsPrinted}
use Rattle.ipcz_places.proofs.shown.push_shown.Given as goal

-- what was added so far is printed
abbrev pub invariant-showing : goal.invariant-showing
invariant-showing l = AddsPrinted l.fn.out.items l.out.items × (l.at ≤ length l.text)

abbrev pub decreases-showing : goal.decreases-showing
decreases-showing l = length l.text - l.at
