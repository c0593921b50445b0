-- What the looks of C tell of a portal, and whether it has arrived.
use Rattle.std.specs.Prelude.{◌≡◌, ◌≤◌, ◌<◌, ℕ, Bool, Option, Some, None}
use Rattle.ipcz_base.specs.declared.end.End.{End}
use Rattle.ipcz_base.specs.declared.parcel.Sizes.{Sizes}
use Rattle.ipcz_base.specs.declared.refusal.Refusal.TheVariants.{Stranger}
use Rattle.ipcz_base.specs.declared.status.PortalStatus.{PortalStatus}
use Rattle.ipcz_base.specs.Refusals.{code_of}
use Rattle.ipcz_node.specs.Arriving.{arrival_of}
use Rattle.ipcz_node.specs.Looking.{IsLook}
use Rattle.ipcz_world.specs.Arrived.{arrival_in}
use Rattle.ipcz_world.specs.World.{World, node_at}
use Rattle.ipcz_c.specs.declared.portal.Portal.{Portal}
use Rattle.ipcz_c.specs.declared.portal.Seen.{Seen}
use Rattle.ipcz_c.specs.HeldCells.{HeldCell}
use Rattle.ipcz_c.specs.Named.{named}

-- the sizes that are told: none where no parcel waits
abbrev pub no_sizes : Sizes
no_sizes = record { bytes = 0; ends = 0 }

unfoldable pub sizes_told : Option Sizes → Sizes
sizes_told None = no_sizes
sizes_told (Some sizes) = sizes

-- a status, as C sees it
abbrev pub seen_of : PortalStatus → Seen
seen_of s = record {
  next = s.next;
  waiting = s.waiting;
  size = (sizes_told s.sizes).bytes;
  count = (sizes_told s.sizes).ends;
  peer_closed = s.peer_closed;
}

-- what is told of an answer: a status is written, and a portal that the node doesn't have is refused
unfoldable pub TellsSeen : Option PortalStatus → ℕ → Seen → Seen → Type 0
TellsSeen (Some s) status old seen = (status ≡ 0) × (seen ≡ seen_of s)
TellsSeen None status old seen = (status ≡ code_of Stranger) × (seen ≡ old)

-- what the world of a handle answers to a look, and what the cell of one does
abbrev pub IsLookIn : Option World → ℕ → End → Option PortalStatus → Type 0
IsLookIn old node at answer = (w : World) → old ≡ Some w →
    (node < w.count → IsLook (node_at w node) at answer) × (w.count ≤ node → answer ≡ None)

abbrev pub IsLookOf : Option HeldCell → End → Option PortalStatus → Type 0
IsLookOf old at answer = (c : HeldCell) → old ≡ Some c → IsLook c.cell.part.state at answer

-- a look at a portal of a world, and one at a portal of a cell
abbrev pub Looks : Option World → ℕ → Portal → ℕ → Seen → Seen → Type 0
Looks old node at status old_seen seen =
    (answer : Option PortalStatus) × IsLookIn old node (named at) answer × TellsSeen answer status old_seen seen

abbrev pub CellLooks : Option HeldCell → Portal → ℕ → Seen → Seen → Type 0
CellLooks old at status old_seen seen =
    (answer : Option PortalStatus) × IsLookOf old (named at) answer × TellsSeen answer status old_seen seen

-- what is told of whether a portal has arrived: that is written, and a portal that the node doesn't have is refused
unfoldable pub TellsArrived : Option Bool → ℕ → Bool → Bool → Type 0
TellsArrived (Some is) status old arrived = (status ≡ 0) × (arrived ≡ is)
TellsArrived None status old arrived = (status ≡ code_of Stranger) × (arrived ≡ old)

-- whether a portal of a world has arrived, and whether one of a cell has
abbrev pub HasArrivedIn : Option World → ℕ → Portal → ℕ → Bool → Bool → Type 0
HasArrivedIn old node at status old_arrived arrived =
    (w : World) → old ≡ Some w → TellsArrived (arrival_in w node (named at)) status old_arrived arrived

abbrev pub HasArrivedAt : Option HeldCell → Portal → ℕ → Bool → Bool → Type 0
HasArrivedAt old at status old_arrived arrived =
    (c : HeldCell) → old ≡ Some c → TellsArrived (arrival_of c.cell.part.state (named at)) status old_arrived arrived
