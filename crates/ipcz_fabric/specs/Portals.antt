-- Portals: what a clause sees of one, what a call of one answers, and why it may be refused: what the call of some cell of its node
-- answers.
use Rattle.std.specs.Prelude.{◌≡◌, ◌⊎◌, ℕ, Bool, true, false, not, if◌then◌else◌, Option, Some, None, List, [], ◌∷◌, map, take, unwrap_or, nat_lt}
use Rattle.ipcz_base.specs.declared.profile.Profile.{Profile}
use Rattle.ipcz_base.specs.declared.end.End.{End}
use Rattle.ipcz_base.specs.declared.parcel.Parcel as parcels
use Rattle.ipcz_base.specs.declared.parcel.Sizes.{Sizes}
use Rattle.ipcz_base.specs.declared.refusal.Refusal.{Refusal}
use Rattle.ipcz_base.specs.declared.refusal.Refusal.TheVariants as refusals
use Rattle.ipcz_base.specs.Ends.{opposite_end, has_end}
use Rattle.ipcz_base.specs.Limits.{takes_bytes}
use Rattle.ipcz_base.specs.declared.status.PortalStatus.{PortalStatus}
use Rattle.ipcz_node.specs.Arriving.{arrival_of}
use Rattle.ipcz_node.specs.Looking.{IsLook}
use Rattle.ipcz_node.specs.Calls.{are_too_many, put_refusal, put_number, get_refusal, got_at, next_sizes, close_refusal}
use Rattle.ipcz_cell.specs.CellStates.{CellState}
use Rattle.ipcz_cell.specs.TableNames.{TableName}
use Rattle.ipcz_fabric.specs.Places.{CellWhere, IsRefusedFor, IsRefusedInOrder}

-- the node whose callers hold the end, and the end
pub record PortalValue : Type 0 where
  pub node : ℕ
  pub end : End

-- the portal of an end that callers of a node hold
abbrev pub portal_at : ℕ → End → PortalValue
portal_at node end = record { node = node; end = end }

-- the portals of these
abbrev pub portals_at : ℕ → List End → List PortalValue
portals_at node ends = map (portal_at node) ends

-- the ends of these portals
abbrev pub ends_of : List PortalValue → List End
ends_of portals = map (λ p. p.end) portals

-- why a get that takes no memory may be refused
abbrev pub IsTakeRefusal : Refusal → Type 0
IsTakeRefusal why = (why ≡ refusals.Stranger) ⊎ (why ≡ refusals.Empty) ⊎ (why ≡ refusals.PeerClosed)

-- why a get at a portal may be refused
abbrev pub IsGetRefusal : Refusal → Type 0
IsGetRefusal why = (why ≡ refusals.OutOfMemory) ⊎ IsTakeRefusal why

-- why a close of a portal may be refused
abbrev pub IsCloseRefusal : Refusal → Type 0
IsCloseRefusal why = (why ≡ refusals.OutOfMemory) ⊎ (why ≡ refusals.Stranger)

-- why a parcel of these bytes and ends isn't put at an end, whatever its node has
abbrev pub parcel_refusal : Profile → End → List ℕ → List End → Option Refusal
parcel_refusal profile at bytes ends =
    if are_too_many profile bytes ends then Some refusals.TooMany
    else if not (takes_bytes profile bytes) then Some refusals.BadData
    else if has_end at ends then Some refusals.SelfAttach
    else if has_end (opposite_end at) ends then Some refusals.PeerAttach
    else None

-- why a put at a portal may be refused: for the node's want of memory or of numbers, for an end that isn't held or a peer that has closed,
-- or for what the parcel is
abbrev pub IsPutRefusal : Profile → End → List ℕ → List End → Refusal → Type 0
IsPutRefusal profile at bytes ends why = (why ≡ refusals.OutOfMemory) ⊎ (why ≡ refusals.Stranger) ⊎ (parcel_refusal profile at bytes ends ≡ Some why) ⊎
    ((parcel_refusal profile at bytes ends ≡ None) × ((why ≡ refusals.PeerClosed) ⊎ (why ≡ refusals.NumbersEnd)))

-- a put at an end of a node answers this number
abbrev pub IsPut : Profile → TableName → ℕ → End → List ℕ → List End → ℕ → Type 0
IsPut profile t node at bytes ends number = CellWhere t node
    (λ c. (put_refusal profile c.part.state at bytes ends ≡ None) × (number ≡ put_number c.part.state at))

-- whether a put of these ends wants memory for a list of them
abbrev pub wants_list : List End → Bool
wants_list [] = false
wants_list (end ∷ ends) = true

-- a put at an end of a node is refused so: for want of memory for the list of its ends, or as the node refuses it
abbrev pub IsRefusedPut : Profile → TableName → ℕ → End → List ℕ → List End → Refusal → Type 0
IsRefusedPut profile t node at bytes ends why = CellWhere t node (λ c. IsRefusedInOrder (wants_list ends) (put_refusal profile c.part.state at bytes ends) why)

-- a get at an end of a cell's node gives a parcel with its number
pub record IsTakenHere (c : CellState) (at : End) (taken : ℕ × parcels.Parcel) : Type 0 where
  pub allowed : get_refusal c.part.state at ≡ None
  pub there : got_at c.part.state at ≡ Some taken

-- a get at an end of a node gives a parcel with its number
abbrev pub IsTaken : TableName → ℕ → End → ℕ × parcels.Parcel → Type 0
IsTaken t node at taken = CellWhere t node (λ c. IsTakenHere c at taken)

-- a get at an end of a cell's node gives this number, these bytes and these portals of a node
pub record IsGotHere (c : CellState) (here : ℕ) (at : End) (number : ℕ) (bytes : List ℕ) (portals : List PortalValue) : Type 0 where
  pub parcel : parcels.Parcel
  pub allowed : get_refusal c.part.state at ≡ None
  pub there : got_at c.part.state at ≡ Some (number, parcel)
  pub bytes_are : bytes ≡ parcel.bytes
  pub portals_are : portals ≡ portals_at here (take 8 parcel.ends)

-- a get at an end of a node gives this number, these bytes and these portals of that node
abbrev pub IsGot : TableName → ℕ → End → ℕ → List ℕ → List PortalValue → Type 0
IsGot t node at number bytes portals = CellWhere t node (λ c. IsGotHere c node at number bytes portals)

-- whether a get wants memory for a list of portals: its parcel has some
abbrev pub has_ends : Option Sizes → Bool
has_ends None = false
has_ends (Some sizes) = nat_lt 0 sizes.ends

-- a get at an end of a cell's node is refused so: for want of memory, if its parcel has ends, or as the node refuses it
abbrev pub IsRefusedGetHere : CellState → End → Refusal → Type 0
IsRefusedGetHere c at why = IsRefusedFor (has_ends (next_sizes c.part.state at)) (get_refusal c.part.state at) why

-- a get at an end of a node is refused so
abbrev pub IsRefusedGet : TableName → ℕ → End → Refusal → Type 0
IsRefusedGet t node at why = CellWhere t node (λ c. IsRefusedGetHere c at why)

-- a get that takes no memory is refused so, at an end of a node: as the node refuses it
abbrev pub IsRefusedTake : TableName → ℕ → End → Refusal → Type 0
IsRefusedTake t node at why = CellWhere t node (λ c. get_refusal c.part.state at ≡ Some why)

-- a close of an end of a node answers this number
abbrev pub IsClosed : TableName → ℕ → End → ℕ → Type 0
IsClosed t node at number = CellWhere t node (λ c. (close_refusal c.part.state at ≡ None) × (number ≡ put_number c.part.state at))

-- a close of an end of a node is refused so: as the node refuses it, and else for want of memory
abbrev pub IsRefusedClose : TableName → ℕ → End → Refusal → Type 0
IsRefusedClose t node at why = CellWhere t node (λ c. why ≡ unwrap_or (close_refusal c.part.state at) refusals.OutOfMemory)

-- a look at an end of a node answers so
abbrev pub IsSeen : TableName → ℕ → End → Option PortalStatus → Type 0
IsSeen t node at answer = CellWhere t node (λ c. IsLook c.part.state at answer)

-- whether an end of a node has arrived is answered so
abbrev pub HasArrivedOrNot : TableName → ℕ → End → Option Bool → Type 0
HasArrivedOrNot t node at answer = CellWhere t node (λ c. answer ≡ arrival_of c.part.state at)
