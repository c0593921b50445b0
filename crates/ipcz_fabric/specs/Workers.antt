-- What a worker does: it asks before each turn whether it may take one, and goes on until it may not, or a turn ends it.
use Rattle.std.specs.Prelude.{◌≡◌, ◌+◌, ℕ, zero, suc, Bool, true, false, if◌then◌else◌, List, [], ◌∷◌, Result, Ok, Err, MatchBool}
use Rattle.ipcz_base.specs.declared.refusal.Refusal.{Refusal}
use Rattle.ipcz_base.specs.declared.refusal.Refusal.TheVariants as refusals
use Rattle.ipcz_node.specs.declared.happened.Happened.{Happened}
use Rattle.ipcz_rule.specs.declared.history.Call.{Call}
use Rattle.ipcz_rule.specs.declared.history.Call.TheVariants as calls
use Rattle.ipcz_rule.specs.declared.history.CallerView.{CallerView}
use Rattle.ipcz_rule.specs.declared.history.Entry.{Entry}
use Rattle.ipcz_cell.specs.TableNames.{TableName}
use Rattle.ipcz_fabric.specs.Hubs.{ExtendsByTurn, IsTurnAnswer}

-- what a turn is answered
abbrev pub Answer : Type 0
Answer = Result Happened Refusal

-- how many turns were taken, with one that was answered this: a refused one isn't taken
abbrev pub counted : ℕ → Answer → ℕ
counted turns (Ok event) = turns + 1
counted turns (Err why) = turns

-- whether a refusal ends the work on a hub: one of memory or of numbers does, a lost race doesn't
abbrev pub ends_work : Answer → Bool
ends_work (Ok event) = false
ends_work (Err refusals.OutOfMemory) = true
ends_work (Err refusals.NumbersEnd) = true
ends_work (Err other) = false

module _ {S : Type 0} (asks : S → ℕ → Bool → S → Type 0) (takes : S → Answer → S → Type 0) (ends : Answer → Bool) where
  -- with so many turns left and so many taken, a worker comes from one state to another and answers how many it has taken then: before each
  -- turn it asks whether it may take it, and if it may not, that is the end; so it is after a turn whose answer ends it, and if no
  -- turn is left
  abbrev pub Works : ℕ → ℕ → S → ℕ → S → Type 0
  Works zero turns s answer t = (answer ≡ turns) × (t ≡ s)
  Works (suc left) turns s answer t = (may : Bool) × (u : S) × asks s turns may u ×
      MatchBool may ((a : Answer) × (v : S) × takes u a v ×
      MatchBool (ends a) ((answer ≡ counted turns a) × (t ≡ v)) (Works left (turns + 1) v answer t))
      ((answer ≡ turns) × (t ≡ u))

-- a worker of a node, whose gate answers so, has taken this number of at most so many turns: each is answered as one of the node's
abbrev pub IsWork : TableName → ℕ → (ℕ → ℕ → Bool → Type 0) → ℕ → ℕ → Type 0
IsWork t node Answers limit number =
    Works {S = Unit {0}} (λ s turns may u. Answers node turns may) (λ s answer u. IsTurnAnswer t node answer) ends_work limit 0 tt number tt

-- a worker of a node, whose gate answers so, has taken this number of at most so many turns as a caller: each was the caller's next call, behind each idle one
-- its next call let a proxy of the node ask again, and it has called nothing else
abbrev pub IsWorkOf : TableName → ℕ → (ℕ → ℕ → Bool → Type 0) → ℕ → CallerView → ℕ → CallerView → Type 0
IsWorkOf t node Answers limit c number c' = Works {S = CallerView} (λ d turns may e. Answers node turns may × (e ≡ d))
    (λ d answer e. ExtendsByTurn t node answer d e) ends_work limit 0 c number c'

-- a call is one turn, if it is one and not refused so that the work ends
abbrev pub turn_in : Call → ℕ
turn_in (calls.Turned answer) = if ends_work answer then 0 else 1
turn_in other = 0

-- how many turns stand among these calls
abbrev pub turns_among : List Entry → ℕ
turns_among [] = 0
turns_among (e ∷ es) = turn_in e.call + turns_among es
