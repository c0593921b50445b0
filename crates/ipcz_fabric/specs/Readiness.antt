-- At which of several portals a get finds something: a parcel, or that the peer has closed.
use Rattle.std.specs.Prelude.{◌≡◌, ◌⊎◌, ◌<◌, ◌≤◌, ℕ, Bool, true, false, List, length, slice_get, Option, Some, None, MatchBool, nat_lt}
use Rattle.ipcz_base.specs.declared.end.End.{End}
use Rattle.ipcz_base.specs.declared.refusal.Refusal.{Refusal}
use Rattle.ipcz_base.specs.declared.refusal.Refusal.TheVariants.{Empty}
use Rattle.ipcz_node.specs.Node.{Node}
use Rattle.ipcz_node.specs.Calls.{finds_something, get_refusal}
use Rattle.ipcz_cell.specs.CellStates.{CellState}
use Rattle.ipcz_cell.specs.TableNames.{TableName}
use Rattle.ipcz_fabric.specs.declared.missed.Missed.{Missed}
use Rattle.ipcz_fabric.specs.declared.missed.Missed.TheVariants.{Refused, Stopped}
use Rattle.ipcz_fabric.specs.Places.{CellWhere}
use Rattle.ipcz_fabric.specs.Portals.{PortalValue}
use Rattle.ipcz_fabric.specs.Stopping.{IsStop}

-- whether a get at an end of a node finds something
abbrev pub finds_at : Node → End → Bool
finds_at n at = finds_something (get_refusal n at)

-- the portal at a place of a list is so
abbrev pub IsThere : List PortalValue → ℕ → (PortalValue → Type 0) → Type 0
IsThere portals place Holds = (p : PortalValue) × (slice_get portals place ≡ Some p) × Holds p

-- each portal before a place of a list is so
abbrev pub EachBefore : List PortalValue → ℕ → (PortalValue → Type 0) → Type 0
EachBefore portals place Holds = (k : ℕ) (p : PortalValue) → k < place → slice_get portals k ≡ Some p → Holds p

-- the portal is one of a cell's node, and a get there finds something
abbrev pub FindsHere : CellState → PortalValue → Type 0
FindsHere c p = (p.node ≡ c.part.node) × (finds_at c.part.state p.end ≡ true)

-- if the portal is one of a cell's node, a get there finds nothing
abbrev pub FindsNoneHere : CellState → PortalValue → Type 0
FindsNoneHere c p = p.node ≡ c.part.node → finds_at c.part.state p.end ≡ false

-- a get at a portal finds something, or finds nothing
abbrev pub Finds : TableName → Bool → PortalValue → Type 0
Finds t found p = CellWhere t p.node (λ c. finds_at c.part.state p.end ≡ found)

-- a place comes before another one in a round that begins at a place: those before that one come behind all others
abbrev pub ComesBefore : ℕ → ℕ → ℕ → Type 0
ComesBefore from k place = MatchBool (nat_lt place from) ((k < place) ⊎ (from ≤ k)) ((from ≤ k) × (k < place))

-- the first of these portals where a get finds something, in a round that begins at a place, is that at another place
abbrev pub IsFirstFrom : TableName → List PortalValue → ℕ → ℕ → Type 0
IsFirstFrom t portals from place = IsThere portals place (Finds t true) ×
    ((k : ℕ) (p : PortalValue) → ComesBefore from k place → slice_get portals k ≡ Some p → Finds t false p)

-- why a wait at portals ends where a get at each finds nothing: the node of the portal at a place is stopped, or nothing has come
abbrev pub IsWhyNone : List PortalValue → Option ℕ → Missed → Type 0
IsWhyNone portals None why = why ≡ Refused Empty
IsWhyNone portals (Some place) why = (place < length portals) × ((stop : Refusal) × (why ≡ Stopped stop) × IsStop stop)

-- a get at each of these portals finds nothing, and a wait there ends for this reason
abbrev pub IsNoneReady : TableName → List PortalValue → Option ℕ → Missed → Type 0
IsNoneReady t portals place why = EachBefore portals (length portals) (Finds t false) × IsWhyNone portals place why
