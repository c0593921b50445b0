-- What is known of a node whose last turn was refused for want of memory or of numbers: nothing comes there until a turn succeeds. And why a get that
-- may sleep has given no parcel.
use Rattle.std.specs.Prelude.{◌≡◌, ◌⊎◌, ℕ, Option, Some, None, List, [], ◌∷◌, Result, Ok, Err}
use Rattle.ipcz_base.specs.declared.end.End.{End}
use Rattle.ipcz_base.specs.declared.refusal.Refusal.{Refusal}
use Rattle.ipcz_base.specs.declared.refusal.Refusal.TheVariants as refusals
use Rattle.ipcz_rule.specs.declared.history.Call.{Call}
use Rattle.ipcz_rule.specs.declared.history.Call.TheVariants as calls
use Rattle.ipcz_rule.specs.declared.history.Entry.{Entry}
use Rattle.ipcz_cell.specs.TableNames.{TableName}
use Rattle.ipcz_fabric.specs.declared.missed.Missed.{Missed}
use Rattle.ipcz_fabric.specs.declared.missed.Missed.TheVariants.{Refused, Stopped}
use Rattle.ipcz_fabric.specs.Portals.{IsRefusedTake, IsTakeRefusal}

-- a refusal of a turn for want of memory or of numbers, which the next turn meets as well unless something else changes
abbrev pub IsStop : Refusal → Type 0
IsStop why = (why ≡ refusals.OutOfMemory) ⊎ (why ≡ refusals.NumbersEnd)

-- why a turn stops its node, if it does
abbrev pub stop_of : {A : Type 0} → Result A Refusal → Option Refusal
stop_of (Ok a) = None
stop_of (Err refusals.OutOfMemory) = Some refusals.OutOfMemory
stop_of (Err refusals.NumbersEnd) = Some refusals.NumbersEnd
stop_of (Err other) = None

-- why a node is stopped behind a call, if it was stopped before or not: turns alone stop it and let it go on, and no node is when it comes behind its lock
abbrev pub stop_after : Option Refusal → Call → Option Refusal
stop_after stop (calls.Entered state) = None
stop_after stop (calls.Turned answer) = stop_of answer
stop_after stop (calls.Acted limit answer) = stop_of answer
stop_after stop other = stop

-- why a node is stopped behind these calls, one after the other
abbrev pub stop_behind : Option Refusal → List Entry → Option Refusal
stop_behind stop [] = stop
stop_behind stop (e ∷ es) = stop_behind (stop_after stop e.call) es

-- why the last turn in a node's history has stopped it, if it has
abbrev pub stop_in : List Entry → Option Refusal
stop_in es = stop_behind None es

-- the refusal that is told, of the get or of a turn
abbrev pub why_of : Missed → Refusal
why_of (Refused why) = why
why_of (Stopped why) = why

-- what the get itself was answered
abbrev pub refusal_of : Missed → Refusal
refusal_of (Refused why) = why
refusal_of (Stopped why) = refusals.Empty

abbrev pub answer_of : {A : Type 0} → Result A Missed → Result A Refusal
answer_of (Ok a) = Ok a
answer_of (Err missed) = Err (refusal_of missed)

-- what is told of why the node is stopped, if it is: a get finds nothing there as long as it isn't
abbrev pub TellsStop : Option Refusal → Missed → Type 0
TellsStop stop (Stopped why) = stop ≡ Some why
TellsStop stop (Refused refusals.Empty) = stop ≡ None
TellsStop stop (Refused other) = Unit {0}

-- why a get that may sleep gives no parcel
abbrev pub IsMissing : Missed → Type 0
IsMissing (Refused why) = IsTakeRefusal why
IsMissing (Stopped why) = IsStop why

-- such a get at an end of a node gives none for this reason
abbrev pub IsMissed : TableName → ℕ → End → Missed → Type 0
IsMissed t node at (Refused why) = IsRefusedTake t node at why
IsMissed t node at (Stopped why) = IsRefusedTake t node at refusals.Empty × IsStop why
