-- How far to the right things stand in a picture.
use Rattle.std.specs.Prelude.{ℕ, ◌+◌, ◌*◌, ◌≡◌, ◌≢◌, Bool, true, false, List, Option, Some, None, min, slice_get}
use Rattle.std.specs.List.{All}
use Rattle.ipcz_lines.specs.declared.line.Line.{Line}
use Rattle.ipcz_lines.specs.declared.line.ReadLine.{ReadLine}
use Rattle.ipcz_messages.specs.Named.{portals_at, IsCallAt, IsFirstOfName}
use Rattle.ipcz_messages.specs.declared.named.NamedPortal.{NamedPortal}
use Rattle.ipcz_messages.specs.declared.routers.Router.{Router}
use Rattle.ipcz_picture.specs.declared.lanes.Lane.{Lane}
use Rattle.ipcz_picture.specs.declared.scene.Walls.{Walls}

-- the walls of a node; of one that has no band, those where the first would begin
abbrev pub walls_or : Option (Option Walls) → Walls
walls_or (Some (Some walls)) = walls
walls_or other = record { left = 384; right = 384 }

abbrev pub walls_of : List (Option Walls) → ℕ → Walls
walls_of nodes node = walls_or (slice_get nodes node)

-- whether a node has a band
abbrev pub is_band : Option (Option Walls) → Bool
is_band (Some (Some walls)) = true
is_band other = false

abbrev pub has_walls : List (Option Walls) → ℕ → Bool
has_walls nodes node = is_band (slice_get nodes node)

-- where a column of a band is, by the band's left wall, as far as numbers of 64 bits go
abbrev pub column_at : ℕ → ℕ → ℕ
column_at left column = min (left + 44 + 80 * column) 18446744073709551615

-- where a portal stands: in its column of its node's band, or of the band of the opened ones; at 0 if that isn't drawn
abbrev pub across_of_portal : List (Option Walls) → Option Walls → Option ℕ → ℕ → ℕ
across_of_portal nodes opened (Some node) place = column_at (walls_of nodes node).left place
across_of_portal nodes (Some walls) None place = column_at walls.left place
across_of_portal nodes None None place = 0

-- where a router stands: in its column of its node's band, behind those of the portals that are named of the node; at 0 if it isn't known
abbrev pub across_of_router : List (Option Walls) → List NamedPortal → Option Router → Option Lane → ℕ
across_of_router nodes named (Some router) (Some lane) =
    column_at (walls_of nodes router.node).left (portals_at (Some router.node) named + lane.column)
across_of_router nodes named router lane = 0

-- the place of the portal, of those that are named, at which a line is a call that found it; none only if it is no such call, or its portal
-- isn't named
abbrev pub IsPlaceOfCall : List NamedPortal → Line → Option ℕ → Type 0
IsPlaceOfCall named line (Some i) = (name : List ℕ) × IsCallAt name line × IsFirstOfName name named i
IsPlaceOfCall named line None = (name : List ℕ) → IsCallAt name line → All (λ p. p.name.now ≢ name) named

-- that of a line, if there is one
abbrev pub IsPortalCalled : List NamedPortal → Option ReadLine → Option ℕ → Type 0
IsPortalCalled named None at = at ≡ None
IsPortalCalled named (Some x) at = IsPlaceOfCall named x.line at
