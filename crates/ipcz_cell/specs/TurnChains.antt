-- Turns of a cell one after the other, whose events aren't told.
use Rattle.std.specs.Prelude.{◌≡◌, ◌≢◌, ◌<◌, ◌⊎◌, ◌||◌, ℕ, nat_eq, Bool, false, List, [], ◌∷◌, length, Result, Ok, Err, MatchResult}
use Rattle.std.specs.List.{list_any}
use Rattle.ipcz_base.specs.declared.refusal.Refusal.{Refusal}
use Rattle.ipcz_node.specs.declared.act.Act.{Act}
use Rattle.ipcz_node.specs.declared.act.Act.TheVariants.{Hand, Idle, Post}
use Rattle.ipcz_node.specs.declared.happened.Happened.{Happened}
use Rattle.ipcz_node.specs.declared.happened.Happened.TheVariants as events
use Rattle.ipcz_cell.specs.TableNames.{TableName}
use Rattle.ipcz_cell.specs.CellStates.{CellState}
use Rattle.ipcz_node.specs.declared.node_set.NodeSet.{NodeSet}
use Rattle.ipcz_node.specs.NodeSets.{has_node}
use Rattle.ipcz_cell.specs.TurnEnds.{Turns}

-- what a turn did: which act, and what happened
pub record Did : Type 0 where
  pub act : Act
  pub event : Happened

-- a turn has done an act
pub record TakesTurn (t : TableName) (old : CellState) (did : Did) (new : CellState) : Type 0 where
  pub turn : Turns t old (Ok did.event) new
  pub act : turn.act ≡ did.act
  pub busy : did.act ≢ Idle

-- a turn has found nothing to do
pub record IsIdleTurn (t : TableName) (old new : CellState) : Type 0 where
  pub turn : Turns t old (Ok events.Idle) new
  pub idle : turn.act ≡ Idle

-- turns that did this come, one after the other, from one cell to another; none is idle
abbrev pub AreTurns : TableName → CellState → List Did → CellState → Type 0
AreTurns t old [] new = new ≡ old
AreTurns t old (did ∷ more) new = (mid : CellState) × TakesTurn t old did mid × AreTurns t mid more new

-- at most so many turns were taken: the number of them, if they ended at the limit or before an idle one, or the refusal of the one
-- behind them
pub record RunsTurns (t : TableName) (limit : ℕ) (old : CellState) (answer : Result ℕ Refusal) (new : CellState) : Type 0 where
  pub did : List Did
  pub last : CellState
  pub taken : AreTurns t old did last
  pub end : MatchResult answer
      (λ number. (number ≡ length did) × (((number ≡ limit) × (new ≡ last)) ⊎ ((number < limit) × IsIdleTurn t last new)))
      (λ why. (length did < limit) × Turns t last (Err why) new)

-- whether an act touches a node beside its own: it posts a message to that node, or it handles one of that node, whose mailbox is empty then
abbrev pub touches : Act → ℕ → Bool
touches (Post to) n = nat_eq to n
touches (Hand from) n = nat_eq from n
touches other n = false

-- whether one of these turns touches a node
abbrev pub some_touches : List Did → ℕ → Bool
some_touches dids n = list_any (λ did. touches did.act n) dids

-- turns were taken, and the nodes that they touch were added to a set, and no others
pub record RunsTouching (t : TableName) (limit : ℕ) (old : CellState) (answer : Result ℕ Refusal) (before after : NodeSet) (new : CellState) : Type 0 where
  pub runs : RunsTurns t limit old answer new
  pub touched : (n : ℕ) → n < 64 → has_node after n ≡ (some_touches runs.did n || has_node before n)
