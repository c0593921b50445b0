-- Which nodes have a band in a picture.
use Rattle.std.specs.Prelude.{ℕ, ◌≡◌, Bool, true, false, not, ◌&&◌, ◌||◌, ◌==◌, nat_lt, List, Option, Some, is_some, slice_get}
use Rattle.std.specs.List.{list_any}
use Rattle.ipcz_lines.specs.declared.line.Event.{Event}
use Rattle.ipcz_lines.specs.declared.line.Event.TheVariants as events
use Rattle.ipcz_lines.specs.declared.line.Line.{Line}
use Rattle.ipcz_lines.specs.declared.line.Line.TheVariants as lines
use Rattle.ipcz_lines.specs.declared.line.ReadLine.{ReadLine}
use Rattle.ipcz_messages.specs.Named.{portals_at}
use Rattle.ipcz_messages.specs.declared.named.NamedPortal.{NamedPortal}
use Rattle.ipcz_picture.specs.Rows.{is_idle_turn}
use Rattle.ipcz_picture.specs.declared.bands.Bands.{Bands}
use Rattle.ipcz_picture.specs.declared.bands.Bands.TheVariants.{All, Used}
use Rattle.ipcz_picture.specs.declared.scene.Walls.{Walls}

-- whether a turn's node has taken a message of this node, or posted one for it
abbrev pub meets : ℕ → Event → Bool
meets node (events.Look sender) = sender == node
meets node (events.Post destination) = destination == node
meets node other = false

-- whether a line tells that a node takes part: by a turn of its own that isn't idle, or by a message that it has sent or is sent
abbrev pub is_of : ℕ → Line → Bool
is_of node (lines.Turn own event) = (own == node && not (is_idle_turn event)) || meets node event
is_of node other = false

-- whether some line tells it
abbrev pub is_told : ℕ → List ReadLine → Bool
is_told node read = list_any (λ x. is_of node x.line) read

-- whether a node takes part: a line tells it, or a portal of it is named
abbrev pub takes_part : List ReadLine → List NamedPortal → ℕ → Bool
takes_part read named node = is_told node read || nat_lt 0 (portals_at (Some node) named)

-- whether a node is to have a band
abbrev pub is_shown : Bands → List ReadLine → List NamedPortal → ℕ → Bool
is_shown All read named node = true
is_shown Used read named node = takes_part read named node

-- each node has a band exactly if it is to have one
abbrev pub HaveBands : (ℕ → Bool) → List (Option Walls) → Type 0
HaveBands shown walls = (node : ℕ) (band : Option Walls) → slice_get walls node ≡ Some band → is_some band ≡ shown node
