-- Which items are closes, and which are Gone.
use Rattle.std.specs.Prelude.{ℕ, ◌+◌, ◌≡◌, ◌<◌, Bool, true, false, List, length, Option, Some, None, slice_get}
use Rattle.std.specs.List.{All, AllWithin, HoldsAt}
use Rattle.ipcz_lines.specs.declared.line.Line.{Line}
use Rattle.ipcz_lines.specs.declared.line.Line.TheVariants as lines
use Rattle.ipcz_lines.specs.declared.line.Event.TheVariants as events
use Rattle.ipcz_lines.specs.declared.line.RouterEvent.TheVariants as acts
use Rattle.ipcz_lines.specs.declared.line.ReadLine.{ReadLine}
use Rattle.ipcz_lines.specs.declared.line.parts.Answer.TheVariants as answers
use Rattle.ipcz_lines.specs.declared.line.parts.End.{End}
use Rattle.ipcz_lines.specs.declared.line.parts.Side.{Side}
use Rattle.ipcz_lines.specs.declared.line.parts.Side.TheVariants as sides
use Rattle.ipcz_lines.specs.declared.line.parts.Way.{Way}
use Rattle.ipcz_lines.specs.declared.line.parts.Way.TheVariants as ways
use Rattle.ipcz_messages.specs.declared.closes.Closed.{Closed}
use Rattle.ipcz_messages.specs.declared.closes.Nature.{Nature}
use Rattle.ipcz_messages.specs.declared.closes.Nature.TheVariants as natures

-- the line of an index, if both are there
abbrev pub line_at : List ReadLine → Option ℕ → Option ReadLine
line_at read None = None
line_at read (Some i) = slice_get read i

-- the end of a router, if it is known
abbrev pub known_end : Option (Option End) → Option End
known_end (Some end) = end
known_end None = None

abbrev pub served_at : List (Option End) → Option ℕ → Option End
served_at ends None = None
served_at ends (Some router) = known_end (slice_get ends router)

-- a line tells a close with this number: that of a portal, or the retire behind its mark
abbrev pub TellsClose : ℕ → Line → Type 0
TellsClose n (lines.Close at (answers.Number number)) = n ≡ number
TellsClose n (lines.Turn node (events.Router serial (acts.Retire number link))) = n + 1 ≡ number
TellsClose n other = ⊥

-- each of these closes is told by its line
abbrev pub AreToldBy : List ReadLine → List Closed → Type 0
AreToldBy read closed = All (λ c. (c.line < length read) × HoldsAt (λ x. TellsClose c.number x.line) read c.line) closed

-- whether a line is a retire, which makes Gone
abbrev pub is_retire : Line → Bool
is_retire (lines.Turn node (events.Router serial (acts.Retire number link))) = true
is_retire other = false

-- which way a line sends an item, and the number of that
abbrev pub item_sent : Line → Option (Way × ℕ)
item_sent (lines.Turn node (events.Router serial (acts.Send way number link moves))) = Some (way, number)
item_sent other = None

-- the other end of a pair
abbrev pub other_side : Side → Side
other_side sides.A = sides.B
other_side sides.B = sides.A

abbrev pub other_end : End → End
other_end e = record { pair = e.pair; side = other_side e.side }

-- the end at which an item was put that a router of this end sends this way
abbrev pub end_of_item : Way → End → End
end_of_item ways.Out served = served
end_of_item ways.In served = other_end served

-- the mark of this close is the item of this end and number
abbrev pub IsMarkOf : End → ℕ → Closed → Type 0
IsMarkOf end number c = (c.end ≡ end) × (c.number ≡ number)

abbrev pub HasNoMark : End → ℕ → List Closed → Type 0
HasNoMark end number closed = All (λ c. IsMarkOf end number c → ⊥) closed

-- the first close whose mark is this item
pub record IsFirstClose (end : End) (number : ℕ) (closed : List Closed) (i : ℕ) : Type 0 where
  pub within : i < length closed
  pub found : HoldsAt (IsMarkOf end number) closed i
  pub before : AllWithin (λ c. IsMarkOf end number c → ⊥) closed 0 i

abbrev pub IsPlaceOfClose : End → ℕ → List Closed → Option ℕ → Type 0
IsPlaceOfClose end number closed (Some i) = IsFirstClose end number closed i
IsPlaceOfClose end number closed None = HasNoMark end number closed

-- an item is the mark of a close that is told, or Gone, the one behind such a mark, or another
abbrev pub IsNatureOfItem : List Closed → End → ℕ → Nature → Type 0
IsNatureOfItem closed end number (natures.Close line) = (i : ℕ) × IsFirstClose end number closed i × HoldsAt (λ c. c.line ≡ line) closed i
IsNatureOfItem closed end number natures.Gone =
    HasNoMark end number closed × ((mark i : ℕ) × (mark + 1 ≡ number) × IsFirstClose end mark closed i)
IsNatureOfItem closed end number natures.Other = HasNoMark end number closed × ((mark : ℕ) → mark + 1 ≡ number → HasNoMark end mark closed)

-- what a router of this end, if that is known, has sent
abbrev pub IsNatureOfSent : List Closed → Option End → Option (Way × ℕ) → Nature → Type 0
IsNatureOfSent closed (Some served) (Some sent) nature = IsNatureOfItem closed (end_of_item sent.0 served) sent.1 nature
IsNatureOfSent closed served sent nature = nature ≡ natures.Other

-- what a line has made: Gone if it is a retire, and else what it sent
abbrev pub IsNatureOfMade : List Closed → Option End → Line → Bool → Nature → Type 0
IsNatureOfMade closed served line true nature = nature ≡ natures.Gone
IsNatureOfMade closed served line false nature = IsNatureOfSent closed served (item_sent line) nature

-- what a message is which a router of this end made at this line, as far as they are known
abbrev pub IsNature : List Closed → Option End → Option ReadLine → Nature → Type 0
IsNature closed served None nature = nature ≡ natures.Other
IsNature closed served (Some x) nature = IsNatureOfMade closed served x.line (is_retire x.line) nature
