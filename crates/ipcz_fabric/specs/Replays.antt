-- What the history of a node tells: in which state the node came behind its lock, and what each call since then answered there, one after the
-- other. A caller knows a beginning of it.
use Rattle.std.specs.Prelude.{◌≡◌, ℕ, List, [], ◌∷◌, ◌++◌, Some, None, Result, Ok, MatchResult, unwrap_or, take}
use Rattle.ipcz_base.specs.declared.end.End.{End}
use Rattle.ipcz_base.specs.declared.parcel.Parcel as parcels
use Rattle.ipcz_base.specs.declared.profile.Profile.{Profile}
use Rattle.ipcz_base.specs.declared.refusal.Refusal.{Refusal}
use Rattle.ipcz_base.specs.declared.refusal.Refusal.TheVariants as refusals
use Rattle.ipcz_node.specs.Calls.{put_refusal, put_number, get_refusal, got_at, next_sizes, close_refusal}
use Rattle.ipcz_rule.specs.declared.history.Call.{Call}
use Rattle.ipcz_rule.specs.declared.history.Call.TheVariants as calls
use Rattle.ipcz_rule.specs.declared.history.CallerView.{CallerView}
use Rattle.ipcz_rule.specs.declared.history.Entry.{Entry}
use Rattle.ipcz_rule.specs.declared.view.Part.{Part}
use Rattle.ipcz_rule.specs.Histories.{entry_of, at_node, calls_by, noted, after_call}
use Rattle.ipcz_rule.specs.Steps.{put_part, close_part}
use Rattle.ipcz_cell.specs.CellStates.{CellState}
use Rattle.ipcz_cell.specs.Opens.{OpensPair}
use Rattle.ipcz_cell.specs.Parts.{got_part}
use Rattle.ipcz_cell.specs.Retries.{Retries}
use Rattle.ipcz_cell.specs.TableNames.{TableName}
use Rattle.ipcz_cell.specs.TurnChains.{RunsTurns}
use Rattle.ipcz_cell.specs.TurnEnds.{Turns}
use Rattle.ipcz_fabric.specs.Places.{IsCellOf, IsRefusedFor, IsRefusedInOrder}
use Rattle.ipcz_fabric.specs.Portals.{PortalValue, portals_at, has_ends, wants_list}

-- a cell of a node had this part, has that one now, and has done this between them
pub record Changes (t : TableName) (Did : CellState → CellState → Type 0) (p q : Part) : Type 0 where
  pub old : CellState
  pub new : CellState
  pub here : IsCellOf t p.node old
  pub before : old.part ≡ p
  pub after : new.part ≡ q
  pub did : Did old new

-- a put at an end of a node answers this: the parcel's number, or why it is refused, and then nothing has changed
abbrev pub PutsAt : Profile → End → List ℕ → List End → Result ℕ Refusal → Part → Part → Type 0
PutsAt profile at bytes ends answer p q = MatchResult answer
    (λ n. (put_refusal profile p.state at bytes ends ≡ None) × (n ≡ put_number p.state at) × (q ≡ put_part at bytes ends p))
    (λ why. IsRefusedInOrder (wants_list ends) (put_refusal profile p.state at bytes ends) why × (q ≡ p))

-- a get at an end of a node that isn't refused for these reasons answers this: the next parcel with its number, or why it is refused, and then
-- nothing has changed
abbrev pub GivesAt : End → (Refusal → Type 0) → Result (ℕ × parcels.Parcel) Refusal → Part → Part → Type 0
GivesAt at Refuses answer p q = MatchResult answer
    (λ g. (get_refusal p.state at ≡ None) × (got_at p.state at ≡ Some g) × (q ≡ got_part at p))
    (λ why. Refuses why × (q ≡ p))

-- a close of an end of a node answers this: the number of its mark, or why it is refused, and then nothing has changed
abbrev pub ClosesAt : End → Result ℕ Refusal → Part → Part → Type 0
ClosesAt at answer p q = MatchResult answer
    (λ n. (close_refusal p.state at ≡ None) × (n ≡ put_number p.state at) × (q ≡ close_part at p))
    (λ why. (why ≡ unwrap_or (close_refusal p.state at) refusals.OutOfMemory) × (q ≡ p))

-- a node of this part does this call, answers it so, and has that part then. To come behind a lock is no call
abbrev pub Does : TableName → Call → Part → Part → Type 0
Does t (calls.Entered state) p q = ⊥
Does t (calls.Opened answer) p q = Changes t (λ old new. OpensPair t old new answer) p q
Does t (calls.Turned answer) p q = Changes t (λ old new. Turns t old answer new) p q
Does t (calls.Acted limit answer) p q = Changes t (λ old new. RunsTurns t limit old answer new) p q
Does t (calls.Retried answer) p q = Changes t (λ old new. Retries t old answer new) p q
Does t (calls.Put profile at bytes ends answer) p q = PutsAt profile at bytes ends answer p q
Does t (calls.Got at answer) p q = GivesAt at (IsRefusedFor (has_ends (next_sizes p.state at)) (get_refusal p.state at)) answer p q
Does t (calls.Taken at answer) p q = GivesAt at (λ why. get_refusal p.state at ≡ Some why) answer p q
Does t (calls.Closed at answer) p q = ClosesAt at answer p q

-- from this part on the node does these calls, one after the other, and each is written down behind it: so it comes to that part
abbrev pub Replays : TableName → List Entry → Part → Part → Type 0
Replays t [] p q = q ≡ p
Replays t (e ∷ es) p q = (r : Part) × (e.node ≡ p.node) × Does t e.call p r × Replays t es (noted e r) q

-- the part in which its node came behind a lock, where that was written down as of this caller
abbrev pub entered : ℕ → Part → Part
entered by p = noted (entry_of p.node by (calls.Entered p.state)) p

-- a node of this part came behind its lock once, and all that was called there since then stands in its history, in order: replayed it leads to
-- this part
pub record IsReached (t : TableName) (p : Part) : Type 0 where
  pub first : Part
  pub by : ℕ
  pub made : List Entry
  pub replayed : Replays t made (entered by first) p
  pub told : p.history ≡ (entered by first).history ++ made

-- The caller's next call was this one, at this node, and it answered so. The history of the node, as far as the caller has seen it, is what the
-- node does from where it came behind its lock, call by call, and ends with this call. Before it stands all that the caller had seen before, and
-- of the caller's own calls it has just those that it made
pub record Extends (t : TableName) (node : ℕ) (call : Call) (c c' : CallerView) : Type 0 where
  pub between : List Entry
  pub after : c' ≡ after_call between (entry_of node c.id call) c
  pub own : calls_by c.id c'.seen ≡ c'.mine
  pub last : Part
  pub node_is : last.node ≡ node
  pub history : at_node node c'.seen ≡ last.history
  pub reached : IsReached t last

-- the caller's next calls were these, each at its node, one after the other
abbrev pub ExtendsInTurn : TableName → List (ℕ × Call) → CallerView → CallerView → Type 0
ExtendsInTurn t [] c c' = c' ≡ c
ExtendsInTurn t (first ∷ more) c c' = (d : CallerView) × Extends t first.0 first.1 c d × ExtendsInTurn t more d c'

-- a parcel of this number is given with these bytes and these portals of its node
pub record IsParcelOf (node : ℕ) (bytes : List ℕ) (portals : List PortalValue) (parcel : parcels.Parcel) : Type 0 where
  pub bytes_are : bytes ≡ parcel.bytes
  pub portals_are : portals ≡ portals_at node (take 8 parcel.ends)

-- the caller's next call was a get, at an end of a node, that gave a parcel of this number, with these bytes and these portals of a node
abbrev pub GetsParcel : TableName → ℕ → ℕ → End → ℕ → List ℕ → List PortalValue → CallerView → CallerView → Type 0
GetsParcel t node here at number bytes portals c c' = (parcel : parcels.Parcel) × IsParcelOf here bytes portals parcel ×
    Extends t node (calls.Got at (Ok (number, parcel))) c c'

-- behind a call a cell was left so, and then the call was written down in it
pub record IsNotedCell (e : Entry) (c c' : CellState) : Type 0 where
  pub part : c'.part ≡ noted e c.part
  pub seen : c'.seen ≡ c.seen

-- a call of a caller did this to a cell, and then it was written down there: so it left the cell
abbrev pub Leaves : ℕ → Call → (CellState → Type 0) → CellState → Type 0
Leaves by call Did new = (done : CellState) × Did done × IsNotedCell (entry_of done.part.node by call) done new

-- a call of a caller made this of a cell's part, and then it was written down there, and nothing else has changed
abbrev pub LeavesPart : ℕ → Call → Part → CellState → CellState → Type 0
LeavesPart by call p old new = (new.part ≡ noted (entry_of p.node by call) p) × (new.seen ≡ old.seen)

-- a get of a caller, at an end of a cell's node, took out the parcel of this number, with these bytes and these portals of a node, and left the cell so
abbrev pub LeavesParcel : ℕ → End → ℕ → List ℕ → List PortalValue → ℕ → CellState → CellState → Type 0
LeavesParcel node at number bytes portals by old new = (parcel : parcels.Parcel) × IsParcelOf node bytes portals parcel ×
    LeavesPart by (calls.Got at (Ok (number, parcel))) (got_part at old.part) old new
