-- Runs of the table: steps that turns take, of any seats, in whatever order, and what they are for the shown world.
use Rattle.std.specs.Prelude.{◌≡◌, ◌≢◌, ◌≤◌, ◌<◌, ◌+◌, ◌*◌, ℕ, Bool, List, [], ◌∷◌, ◌++◌, length, slice_index, refl}
use mathlib.Core.Option.{some}
use lib.ListN.{get_elem?}
use Rattle.atomic_table.specs.Table.{stepped}
use Rattle.ipcz_node.specs.declared.act.Act.{Act}
use Rattle.ipcz_world.specs.Ranks.{Rates, IsRated, AreTurns, rank, times_used, unlock_count}
use Rattle.ipcz_rule.specs.Batches.{BatchSt, BatchMine, Batched, BatchTurns}

-- a step of a seat on a word of the table, of a kind that a turn takes, whatever it leaves of the seat: for the number found it is these
-- turns of the shown world, none, one, or a hand and the post behind it
pub record TurnStep (count size : ℕ) (alone : Bool) (s : BatchSt) (turns : List (ℕ × Act)) : Type 0 where
  pub seat : ℕ
  pub me : BatchMine
  pub word : ℕ
  pub change : ℕ → ℕ
  pub acts : ℕ → List (ℕ × Act)
  pub allowed : BatchTurns alone count size (length s.homes) seat me word change acts (λ n left. Unit {0})
  pub there : get_elem? s.views seat ≡ some me.0
  pub small : slice_index s.words word < 18446744073709551616
  pub is : acts (slice_index s.words word) ≡ turns

-- a table that keeps the rule, with what the rule shows of it
abbrev pub Ruled : ℕ → ℕ → Bool → Type 0
Ruled count size alone = (s : BatchSt) × Batched count size alone s

-- the table after a step
abbrev pub after_step : (count size : ℕ) (alone : Bool) (p : Ruled count size alone) (turns : List (ℕ × Act)) → TurnStep count size alone p.0 turns →
    Ruled count size alone
after_step count size alone p turns t =
    let done = t.allowed p.0 p.1 refl t.there t.small in
    (stepped p.0 t.word (t.change (slice_index p.0.words t.word)) t.seat t.me.1 done.0 done.1, done.3.0)

-- steps one after the other, of any seats, each with the turns that it is; and the table behind them
abbrev pub AreSteps : (count size : ℕ) (alone : Bool) → Ruled count size alone → List (List (ℕ × Act)) → Ruled count size alone → Type 0
AreSteps count size alone p [] q = q ≡ p
AreSteps count size alone p (turns ∷ steps) q = (t : TurnStep count size alone p.0 turns) ×
    AreSteps count size alone (after_step count size alone p turns t) steps q

-- the turns of all steps, in their order
abbrev pub all_turns : List (List (ℕ × Act)) → List (ℕ × Act)
all_turns [] = []
all_turns (turns ∷ steps) = turns ++ all_turns steps

-- steps are a run of turns of the shown world
abbrev pub StepsAreTurns : Type 0
StepsAreTurns =
    (count size : ℕ) (alone : Bool) (p q : Ruled count size alone) (steps : List (List (ℕ × Act))) → AreSteps count size alone p steps q →
    AreTurns p.1.rules.world p.1.rules.books p.1.rules.routes (all_turns steps) q.1.rules.world q.1.rules.books q.1.rules.routes

-- so no more of the steps use something up than the rank of the shown world at the start, and two for each unlock, by all rates that fit
-- the joined books
abbrev pub StepsAreBounded : Type 0
StepsAreBounded =
    (count size : ℕ) (alone : Bool) (p q : Ruled count size alone) (steps : List (List (ℕ × Act))) (c : Rates) → IsRated c p.1.rules.books →
    AreSteps count size alone p steps q →
    times_used p.1.rules.world (all_turns steps) + rank c q.1.rules.world ≤ rank c p.1.rules.world + 2 * unlock_count (all_turns steps)

-- if a link word or the claim count has another number behind steps, one of them is an act
abbrev pub OvertakenByActs : Type 0
OvertakenByActs =
    (count size i : ℕ) (alone : Bool) (p q : Ruled count size alone) (steps : List (List (ℕ × Act))) → AreSteps count size alone p steps q → i ≤ size →
    slice_index q.0.words i ≢ slice_index p.0.words i → all_turns steps ≢ []
