-- What the calls of C do to the cell of a handle, by the calls of the cell.
use Rattle.std.specs.Prelude.{◌≡◌, ◌⊎◌, ℕ, Bool, true, false, not, ◌&&◌, is_some, List, [], ◌∷◌, map, length, Option, Some, Result, Ok, Err}
use Rattle.ipcz_base.specs.declared.end.End.{End}
use Rattle.ipcz_base.specs.declared.parcel.Parcel as parcels
use Rattle.ipcz_base.specs.declared.profile.Profile.{Profile}
use Rattle.ipcz_base.specs.declared.refusal.Refusal.{Refusal}
use Rattle.ipcz_base.specs.declared.refusal.Refusal.TheVariants.{OutOfMemory}
use Rattle.ipcz_base.specs.Refusals.{code_of}
use Rattle.ipcz_world.specs.declared.step.Reply.{Reply}
use Rattle.ipcz_world.specs.declared.step.Reply.TheVariants as replies
use Rattle.ipcz_cell.specs.CellStates.{CellState}
use Rattle.ipcz_cell.specs.Making.{AreFirst}
use Rattle.ipcz_cell.specs.Opens.{OpensPair, ShowsWord}
use Rattle.ipcz_cell.specs.TableNames.{TableName}
use Rattle.ipcz_cell.specs.Retries.{Retries}
use Rattle.ipcz_rule.specs.declared.retry.Retry.{Retry}
use Rattle.ipcz_rule.specs.declared.retry.Retry.TheVariants as retries
use Rattle.ipcz_node.specs.declared.node_set.NodeSet.{NodeSet}
use Rattle.ipcz_node.specs.NodeSets.{no_nodes}
use Rattle.ipcz_cell.specs.TurnChains.{RunsTouching}
use Rattle.ipcz_c.specs.declared.cell_handle.CellHandle.{CellHandle}
use Rattle.ipcz_c.specs.declared.portal.Portal.{Portal}
use Rattle.ipcz_c.specs.Calls.{IsRefused, written, all_links}
use Rattle.ipcz_c.specs.CellSteps.{PutsAt, GetsAt, ClosesAt}
use Rattle.ipcz_c.specs.HeldCells.{HeldCell, Moves}
use Rattle.ipcz_c.specs.Named.{named, ends_of}
use Rattle.ipcz_c.specs.Statuses.{status_of}
use Rattle.ipcz_c.specs.Told.{Room, IsGot}

-- the status of an answer
unfoldable pub outcome_of : {X : Type 0} → Result X Refusal → ℕ
outcome_of (Ok x) = 0
outcome_of (Err why) = code_of why

-- the status of an answer, and the number that it tells; a refusal tells none
unfoldable pub IsNumbered : Result ℕ Refusal → ℕ → ℕ → ℕ → Type 0
IsNumbered (Ok n) status old number = (status ≡ 0) × (number ≡ n)
IsNumbered (Err why) status old number = (status ≡ code_of why) × (number ≡ old)

-- the status of an open, and the portals that were opened
unfoldable pub AreEnds : Result (End × End) Refusal → ℕ → Portal → Portal → Portal → Portal → Type 0
AreEnds (Ok ends) status old_first old_second first second = (status ≡ 0) × (named first ≡ ends.0) × (named second ≡ ends.1)
AreEnds (Err why) status old_first old_second first second = (status ≡ code_of why) × (first ≡ old_first) × (second ≡ old_second)

-- what a get answers, as the reply of a world's get
unfoldable pub get_answer : Result (ℕ × parcels.Parcel) Refusal → Reply
get_answer (Ok got) = replies.Got got.0 got.1
get_answer (Err why) = replies.Refused why

-- an open
abbrev pub CellOpens : Option HeldCell → ℕ → Portal → Portal → Portal → Portal → Option HeldCell → Type 0
CellOpens old status old_first old_second first second new = (answer : Result (End × End) Refusal)
    × Moves (λ t c d. OpensPair t c d answer) old new × AreEnds answer status old_first old_second first second

-- a put; where no memory is found for its lists the cell isn't called
abbrev pub CellPuts : Profile → Option HeldCell → Portal → List ℕ → List Portal → ℕ → ℕ → ℕ → Option HeldCell → Type 0
CellPuts profile old at bytes portals status old_number number new =
    ((answer : Result ℕ Refusal) × Moves (λ t c d. PutsAt profile (named at) bytes (ends_of portals) c answer d) old new
    × IsNumbered answer status old_number number)
    ⊎ (IsRefused (code_of OutOfMemory) old status new × (number ≡ old_number))

-- a get that was given room, or finds no parcel
abbrev pub CellGets : Option HeldCell → Portal → ℕ → Room → Room → Option HeldCell → Type 0
CellGets old at status old_room room new = (answer : Result (ℕ × parcels.Parcel) Refusal)
    × Moves (λ t c d. GetsAt (named at) c answer d) old new × (status ≡ status_of (get_answer answer)) × IsGot (get_answer answer) old_room room

-- a close
abbrev pub CellCloses : Option HeldCell → Portal → ℕ → Option HeldCell → Type 0
CellCloses old at status new =
    (answer : Result ℕ Refusal) × Moves (λ t c d. ClosesAt (named at) c answer d) old new × (status ≡ outcome_of answer)

-- turns one after the other, how many, and which nodes they touched
abbrev pub CellActs : ℕ → Option HeldCell → ℕ → ℕ → ℕ → ℕ → Option HeldCell → Type 0
CellActs limit old status old_acts acts touched new = (answer : Result ℕ Refusal) × (nodes : NodeSet)
    × Moves (λ t c d. RunsTouching t limit c answer no_nodes nodes d) old new × IsNumbered answer status old_acts acts × (touched ≡ nodes.bits)

-- the number that tells what became of a proxy that may ask again for its slot
abbrev pub retry_code : Retry → ℕ
retry_code retries.NoneWaits = 0
retry_code retries.NoSlot = 1
retry_code (retries.Again serial) = 2

-- a proxy that asks again
abbrev pub CellRetries : Option HeldCell → ℕ → Option HeldCell → Type 0
CellRetries old status new = (answer : Retry) × Moves (λ t c d. Retries t c answer d) old new × (status ≡ retry_code answer)

-- what is read of a link word, which is written if there is one
abbrev pub CellReads : ℕ → Option HeldCell → Bool → ℕ → ℕ → Option HeldCell → Type 0
CellReads i old there old_word word new = (answer : Option ℕ) × Moves (λ t c d. ShowsWord t i c answer d) old new
    × (written there word ≡ answer) × (there ≡ false → word ≡ old_word)

-- whether no handle has a cell
abbrev pub are_vacant : List CellHandle → Bool
are_vacant [] = true
are_vacant (h ∷ hs) = not (is_some h.held.cell) && are_vacant hs

-- the cells of handles
abbrev pub cells_of : List CellHandle → List (Option HeldCell)
cells_of handles = map (λ (h : CellHandle). h.held.cell) handles

-- cells of a table, each as its handle has it
abbrev pub holds_each : TableName → List CellState → List (Option HeldCell)
holds_each t cells = map (λ (c : CellState). Some (record { table = t; cell = c })) cells

-- these handles have these cells of a table, in this order
abbrev pub AreHeld : TableName → List CellState → List CellHandle → Type 0
AreHeld t cells handles = cells_of handles ≡ holds_each t cells

-- the handles have the cells of a new table for so many links, with so many slots, which are used again or not, one for each node
pub record AreMade (words room : ℕ) (reuses : Bool) (handles : List CellHandle) : Type 0 where
  pub table : TableName
  pub cells : List CellState
  pub count : table.count ≡ length handles
  pub size : table.size ≡ words
  pub slots : table.slots ≡ room
  pub reused : table.reuses ≡ reuses
  pub first : AreFirst table.count table.count cells
  pub held : AreHeld table cells handles

-- a create within the limits, on handles that have no cell: a new table, or no memory was found
abbrev pub MakesCells : ℕ → ℕ → Bool → List CellHandle → ℕ → List CellHandle → Type 0
MakesCells words slots reuses old status new =
    ((status ≡ 0) × AreMade words slots reuses new) ⊎ ((status ≡ code_of OutOfMemory) × (new ≡ old))

-- each link has a word of its own
abbrev pub CellsAreMade : ℕ → List CellHandle → ℕ → List CellHandle → Type 0
CellsAreMade words = MakesCells words words false

-- link words come back
abbrev pub CellsLast : ℕ → List CellHandle → ℕ → List CellHandle → Type 0
CellsLast slots = MakesCells all_links slots true
