-- The portals that a hub begins with: one for each end that callers of its nodes hold, by node and then by the serial of the end's
-- terminal. What its calls answer: what the call of some cell of the node answers.
use Rattle.std.specs.Prelude.{◌≡◌, ◌⊎◌, ◌<◌, ◌≤◌, ◌+◌, ◌^◌, ℕ, Bool, true, false, List, [], ◌∷◌, ◌++◌, Option, Some, None, Result, Ok, Err, MatchBool}
use Rattle.ipcz_base.specs.declared.end.End.{End}
use Rattle.ipcz_base.specs.declared.side.Side.TheVariants.{A, B}
use Rattle.ipcz_base.specs.declared.refusal.Refusal.{Refusal}
use Rattle.ipcz_base.specs.declared.refusal.Refusal.TheVariants as refusals
use Rattle.ipcz_base.specs.Ends.{end_at}
use Rattle.ipcz_node.specs.declared.happened.Happened.{Happened}
use Rattle.ipcz_node.specs.declared.happened.Happened.TheVariants.{Idle}
use Rattle.ipcz_node.specs.Node.{Node}
use Rattle.ipcz_node.specs.Finding.{IsNextHeld, IsNextReady}
use Rattle.ipcz_cell.specs.TableNames.{TableName}
use Rattle.ipcz_cell.specs.CellStates.{CellState}
use Rattle.ipcz_cell.specs.Opens.{OpensPair}
use Rattle.ipcz_fabric.specs.Places.{CellWhere}
use Rattle.ipcz_fabric.specs.Portals.{PortalValue, portal_at, portals_at}
use Rattle.ipcz_fabric.specs.Replays.{Extends, Leaves}
use Rattle.ipcz_cell.specs.TurnChains.{RunsTurns}
use Rattle.ipcz_cell.specs.TurnEnds.{Turns}
use Rattle.ipcz_cell.specs.Retries.{Retries}
use Rattle.ipcz_rule.specs.declared.history.Call.TheVariants as calls
use Rattle.ipcz_rule.specs.declared.history.CallerView.{CallerView}
use Rattle.ipcz_rule.specs.declared.retry.Retry.{Retry}
use Rattle.ipcz_rule.specs.declared.retry.Retry.TheVariants as retries

-- these are the ends that callers of a node hold whose terminals have a serial from this one on, by rising serials; a serial is below
-- 2 ^ 64
abbrev pub AreHeldFrom : Node → ℕ → List End → Type 0
AreHeldFrom n from [] = (2 ^ 64 ≤ from) ⊎ IsNextHeld n from None
AreHeldFrom n from (e ∷ es) = (serial : ℕ) × IsNextHeld n from (Some (serial, e)) × AreHeldFrom n (serial + 1) es

-- these are the portals of all ends that callers of these cells' nodes hold
abbrev pub AreFirstPortals : List CellState → List PortalValue → Type 0
AreFirstPortals [] portals = portals ≡ []
AreFirstPortals (c ∷ cells) portals = (ends : List End) × (others : List PortalValue) × AreHeldFrom c.part.state 0 ends ×
    AreFirstPortals cells others ×
    (portals ≡ portals_at c.part.node ends ++ others)

-- so many portals more are those of the ends that callers of a node hold
abbrev pub AddsHeld : Node → ℕ → List PortalValue → List PortalValue → Type 0
AddsHeld n node before after = (ends : List End) × AreHeldFrom n 0 ends × (after ≡ before ++ portals_at node ends)

-- so many portals more are the first portals of these cells
abbrev pub AddsFirst : List CellState → List PortalValue → List PortalValue → Type 0
AddsFirst cells before after = (more : List PortalValue) × AreFirstPortals cells more × (after ≡ before ++ more)

-- why a turn may be refused
abbrev pub IsTurnRefusal : Refusal → Type 0
IsTurnRefusal why = (why ≡ refusals.NumbersEnd) ⊎ (why ≡ refusals.OutOfMemory) ⊎ (why ≡ refusals.Raced)

-- why the open of a pair may be refused
abbrev pub IsOpenRefusal : Refusal → Type 0
IsOpenRefusal why = (why ≡ refusals.NoWord) ⊎ (why ≡ refusals.NumbersEnd) ⊎ (why ≡ refusals.OutOfMemory) ⊎ (why ≡ refusals.Raced)

-- a turn of a node answers this
abbrev pub IsTurnAnswer : TableName → ℕ → Result Happened Refusal → Type 0
IsTurnAnswer t node answer = CellWhere t node (λ old. (new : CellState) × Turns t old answer new)

-- turns of a node, one after the other and at most so many, answer this
abbrev pub AreTurnAnswers : TableName → ℕ → ℕ → Result ℕ Refusal → Type 0
AreTurnAnswers t node limit answer = CellWhere t node (λ old. (new : CellState) × RunsTurns t limit old answer new)

-- whether a proxy asks again for its slot
abbrev pub is_again : Retry → Bool
is_again (retries.Again serial) = true
is_again other = false

-- whether a turn found nothing to do
abbrev pub is_idle : Result Happened Refusal → Bool
is_idle (Ok Idle) = true
is_idle other = false

-- a turn of a cell answers this, and is written down as of this caller; behind an idle one a proxy was let ask again, which is written down, too, and it
-- is told whether one does. So the cell is left
abbrev pub TurnsAsking : TableName → ℕ → CellState → Result Happened Refusal → Bool → CellState → Type 0
TurnsAsking t by old answer asks new = (turned : CellState) × Leaves by (calls.Turned answer) (λ done. Turns t old answer done) turned ×
    MatchBool (is_idle answer)
    ((found : Retry) × Leaves by (calls.Retried found) (λ done. Retries t turned found done) new × (asks ≡ is_again found))
    ((new ≡ turned) × (asks ≡ false))

-- a turn of a node, and a proxy of it that may have been let ask again, are told so
abbrev pub IsAskingAnswer : TableName → ℕ → Result Happened Refusal → Bool → Type 0
IsAskingAnswer t node answer asks = CellWhere t node (λ old. (by : ℕ) × (new : CellState) × TurnsAsking t by old answer asks new)

-- a proxy of a node that asks again is answered this
abbrev pub IsRetryAnswer : TableName → ℕ → Result Retry Refusal → Type 0
IsRetryAnswer t node answer = CellWhere t node (λ old. (found : Retry) × (new : CellState) × Retries t old found new × (answer ≡ Ok found))

-- the next ready end of a node is this: the first from a router's serial on that its callers hold and where a get isn't Empty
abbrev pub IsReadyAnswer : TableName → ℕ → ℕ → Option (ℕ × End) → Type 0
IsReadyAnswer t node serial answer = CellWhere t node (λ c. IsNextReady c.part.state serial answer)

-- portals of both sides of a pair, at a node: the pair is that of a link word
pub record ArePair (size node : ℕ) (portals : PortalValue × PortalValue) : Type 0 where
  pub pair : ℕ
  pub inside : pair < size
  pub are : portals ≡ (portal_at node (end_at pair A), portal_at node (end_at pair B))

-- the portals of the ends that an open answers, at a node
abbrev pub opened_portals : ℕ → Result (End × End) Refusal → Result (PortalValue × PortalValue) Refusal
opened_portals node (Ok ends) = Ok (portal_at node ends.0, portal_at node ends.1)
opened_portals node (Err why) = Err why

-- the open of a pair at a cell answers these portals, and leaves this cell
abbrev pub OpensPortals : TableName → ℕ → CellState → Result (PortalValue × PortalValue) Refusal → CellState → Type 0
OpensPortals t node old answer new = (ends : Result (End × End) Refusal) × OpensPair t old new ends ×
    (answer ≡ opened_portals node ends)

-- the open of a pair of a caller, at a cell, answers these portals, and is written down: so it left the cell
abbrev pub LeavesOpened : TableName → ℕ → ℕ → CellState → Result (PortalValue × PortalValue) Refusal → CellState → Type 0
LeavesOpened t node by old answer new = (ends : Result (End × End) Refusal) × (answer ≡ opened_portals node ends) ×
    Leaves by (calls.Opened ends) (λ done. OpensPair t old done ends) new

-- the open of a pair at a node answers these portals
abbrev pub IsOpenAnswer : TableName → ℕ → Result (PortalValue × PortalValue) Refusal → Type 0
IsOpenAnswer t node answer = CellWhere t node (λ old. (new : CellState) × OpensPortals t node old answer new)

-- the caller's next call was the open of a pair, at a node, that answered these portals
abbrev pub ExtendsByOpen : TableName → ℕ → Result (PortalValue × PortalValue) Refusal → CallerView → CallerView → Type 0
ExtendsByOpen t node answer c c' = (ends : Result (End × End) Refusal) × (answer ≡ opened_portals node ends) × Extends t node (calls.Opened ends) c c'

-- the caller's next call let a proxy ask again, at a node, and was answered this
abbrev pub ExtendsByRetry : TableName → ℕ → Result Retry Refusal → CallerView → CallerView → Type 0
ExtendsByRetry t node answer c c' = (found : Retry) × (answer ≡ Ok found) × Extends t node (calls.Retried found) c c'

-- the caller's next call was a turn, at a node, that answered this; and behind an idle one the next let a proxy of the node ask again
abbrev pub ExtendsByTurn : TableName → ℕ → Result Happened Refusal → CallerView → CallerView → Type 0
ExtendsByTurn t node answer c c' = (turned : CallerView) × Extends t node (calls.Turned answer) c turned ×
    MatchBool (is_idle answer) ((found : Retry) × Extends t node (calls.Retried found) turned c') (c' ≡ turned)
