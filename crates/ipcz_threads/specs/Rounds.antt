-- Rounds: each worker takes turns until it is idle, or may not, or has taken so many.
use Rattle.std.specs.Prelude.{◌≡◌, ◌<◌, ◌+◌, ◌-◌, ◌||◌, ◌&&◌, ℕ, zero, suc, Bool, true, false, List, [], ◌∷◌, length, slice_get, slice_set}
use Rattle.std.specs.Prelude.{slice_index_or, Some, Ok, Err, if◌then◌else◌, min}
use Rattle.ipcz_base.specs.declared.refusal.Refusal.TheVariants as refusals
use Rattle.ipcz_node.specs.declared.happened.Happened.TheVariants as events
use Rattle.ipcz_cell.specs.Opens.{FindsQuiet}
use Rattle.ipcz_cell.specs.TableNames.{TableName}
use Rattle.ipcz_cell.specs.TurnEnds.{Turns}
use Rattle.ipcz_fabric.specs.Workers.{Answer, Works}
use Rattle.ipcz_threads.specs.Workers.{WorkerState}

-- whether a turn found no memory
abbrev pub finds_no_memory : Answer → Bool
finds_no_memory (Ok event) = false
finds_no_memory (Err refusals.OutOfMemory) = true
finds_no_memory (Err other) = false

-- whether a worker's round ends with this answer: an idle turn, and one that finds no memory or no numbers; a lost race doesn't end it
abbrev pub ends_round : Answer → Bool
ends_round (Ok events.Idle) = true
ends_round (Ok other) = false
ends_round (Err refusals.OutOfMemory) = true
ends_round (Err refusals.NumbersEnd) = true
ends_round (Err other) = false

-- what gates may answer to the question whether the node of a number takes a turn more, after how many
abbrev pub Gates : Type 1
Gates = ℕ → ℕ → Bool → Type 0

-- gates that are open
abbrev pub OpenGates : Gates
OpenGates node turns may = may ≡ true

-- the gate is asked for the worker's node, and nothing else changes
abbrev pub Asks : Gates → WorkerState → ℕ → Bool → WorkerState → Type 0
Asks gates w turns may v = gates w.cell.part.node turns may × (v ≡ w)

-- a turn of the cell; each counts as an act but that which ends the round
abbrev pub Takes : TableName → WorkerState → Answer → WorkerState → Type 0
Takes t w answer v = Turns t w.cell answer v.cell × (v.starved ≡ (w.starved || finds_no_memory answer))
    × (v.left ≡ (if ends_round answer then w.left else w.left - 1))

-- a worker that may take so many acts
abbrev pub allowed : ℕ → WorkerState → WorkerState
allowed limit w = record { cell = w.cell; starved = w.starved; left = limit }

-- what becomes of a worker in a round in which it may take so many acts
abbrev pub TakesTurns : Gates → TableName → ℕ → WorkerState → WorkerState → Type 0
TakesTurns gates t limit w v = (taken : ℕ) × Works (Asks gates) (Takes t) ends_round limit 0 (allowed limit w) taken v

-- how many acts these workers have taken in a round in which each might take so many
abbrev pub acts : ℕ → List WorkerState → ℕ
acts limit [] = 0
acts limit (w ∷ ws) = (limit - w.left) + acts limit ws

-- how many acts are left of so many after a round: it uses up those that its workers have taken, and at least one
abbrev pub left_after : ℕ → List WorkerState → ℕ
left_after limit ws = min (limit - acts limit ws) (limit - 1)

-- a round: each worker takes its turns
pub record IsRound (gates : Gates) (t : TableName) (limit : ℕ) (ws vs : List WorkerState) : Type 0 where
  pub many : length vs ≡ length ws
  pub each : (i : ℕ) (w : WorkerState) → i < length ws → TakesTurns gates t limit (slice_index_or ws i w) (slice_index_or vs i w)

-- the worker of a number is asked whether its node has nothing to do: what it says, and what is left
abbrev pub IsAskedAt : TableName → List WorkerState → ℕ → Bool → List WorkerState → Type 0
IsAskedAt t ws node quiet vs = (w v : WorkerState) × (slice_get ws node ≡ Some w) × FindsQuiet t w.cell quiet v.cell
    × (v.starved ≡ w.starved) × (v.left ≡ w.left)
    × (vs ≡ slice_set ws node v)

-- so many workers from one on are asked, one after the other: whether all of them say so, and what is left
abbrev pub AreAsked : TableName → ℕ → ℕ → List WorkerState → Bool → List WorkerState → Type 0
AreAsked t zero node ws quiet vs = (quiet ≡ true) × (vs ≡ ws)
AreAsked t (suc left) node ws quiet vs =
    (own others : Bool) × (us : List WorkerState) × IsAskedAt t ws node own us × AreAsked t left (node + 1) us others vs
    × (quiet ≡ (own && others))

-- whether some worker's turn found no memory
abbrev pub is_some_starved : List WorkerState → Bool
is_some_starved [] = false
is_some_starved (w ∷ ws) = w.starved || is_some_starved ws
