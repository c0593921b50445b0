-- A call that is answered Raced was overtaken: between the last two numbers that it has found another seat has taken an act. A call is seen in
-- a run of the table, of which it is told what its cell was before and after.
use Rattle.std.specs.Prelude.{◌≡◌, ◌≤◌, ◌+◌, ℕ, suc, not, [], ◌∷◌, List, length, Option, Err}
use mathlib.Core.Option.{some}
use lib.ListN.{get_elem?}
use Rattle.ipcz_base.specs.declared.refusal.Refusal.TheVariants.{Raced}
use Rattle.ipcz_node.specs.declared.act.Act.{Act}
use Rattle.ipcz_rule.specs.declared.view.View.{View}
use Rattle.ipcz_rule.specs.TableRuns.{Ruled, AreSteps}
use Rattle.ipcz_rule.specs.Races.{OnlyLoads, IsOvertaken}
use Rattle.ipcz_cell.specs.TableNames.{TableName}
use Rattle.ipcz_cell.specs.CellStates.{CellState}
use Rattle.ipcz_cell.specs.Words.{TriesLock}
use Rattle.ipcz_cell.specs.Opens.{ClaimsWord, OpensPair}
use Rattle.ipcz_cell.specs.TurnEnds.{Turns}

-- a run of the table from before a call of a cell to behind it, in which the seat's steps are loads: so are those of a call that changes
-- nothing but what was seen
pub record IsRunOf (t : TableName) (id : ℕ) (p : Ruled t.count t.size (not t.reuses)) (steps : List (List (ℕ × Act))) (q : Ruled t.count t.size (not t.reuses))
    (run : AreSteps t.count t.size (not t.reuses) p steps q) (old new : CellState) : Type 0 where
  pub loads : OnlyLoads t.count t.size (not t.reuses) id p steps q run
  pub first : View
  pub last : View
  pub before : get_elem? p.0.views id ≡ some first
  pub behind : get_elem? q.0.views id ≡ some last
  pub part : first.parts ≡ old.part ∷ []
  pub seen_before : first.seen ≡ old.seen
  pub seen_behind : last.seen ≡ new.seen

-- another seat has taken an act on a link word, or on the claim count, behind all but the last of what the call has seen, and before that
pub record IsOvertakenCall (t : TableName) (id : ℕ) (p : Ruled t.count t.size (not t.reuses)) (steps : List (List (ℕ × Act))) (q : Ruled t.count t.size (not t.reuses))
    (run : AreSteps t.count t.size (not t.reuses) p steps q) (old new : CellState) : Type 0 where
  pub word : ℕ
  pub is_shared : word ≤ t.size
  pub earlier : ℕ
  pub all : length new.seen ≡ length old.seen + suc earlier
  pub overtaken : IsOvertaken t.count t.size (not t.reuses) id word earlier p steps q run

-- what follows of a call that is answered so
abbrev pub Overtakes : (TableName → CellState → CellState → Type 0) → Type 0
Overtakes IsRaced =
    (t : TableName) (id : ℕ) (p q : Ruled t.count t.size (not t.reuses)) (steps : List (List (ℕ × Act))) (run : AreSteps t.count t.size (not t.reuses) p steps q)
    (old new : CellState) → IsRunOf t id p steps q run old new → IsRaced t old new → IsOvertakenCall t id p steps q run old new

-- of a turn, a try for the lock, the claim of a word, and the open of a pair
abbrev pub RacedTurnIsOvertaken : Type 0
RacedTurnIsOvertaken = Overtakes (λ t old new. Turns t old (Err Raced) new)

abbrev pub RacedTryIsOvertaken : Type 0
RacedTryIsOvertaken = (serial : ℕ) → Overtakes (λ t old new. TriesLock t.size serial old (Err Raced) new)

abbrev pub RacedClaimIsOvertaken : Type 0
RacedClaimIsOvertaken = (proxy : Option ℕ) → Overtakes (λ t old new. ClaimsWord t proxy old new (Err Raced))

abbrev pub RacedOpenIsOvertaken : Type 0
RacedOpenIsOvertaken = Overtakes (λ t old new. OpensPair t old new (Err Raced))
