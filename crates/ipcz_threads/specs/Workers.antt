-- A node's cell with its gate, as a clause sees it, and what it replies to calls.
use Rattle.std.specs.Prelude.{◌≡◌, ◌+◌, ℕ, Bool, if◌then◌else◌, List, [], ◌∷◌, slice_get, slice_set, Option, Some, None, Result, Ok, Err}
use Rattle.std.specs.Prelude.{MatchOption, MatchResult, unwrap_or}
use Rattle.ipcz_base.specs.declared.profile.Profile.TheVariants.{Printed}
use Rattle.ipcz_base.specs.declared.end.End.{End}
use Rattle.ipcz_base.specs.declared.parcel.Parcel.{Parcel}
use Rattle.ipcz_base.specs.declared.refusal.Refusal.{Refusal}
use Rattle.ipcz_base.specs.declared.refusal.Refusal.TheVariants.{OutOfMemory, Stranger}
use Rattle.ipcz_node.specs.Node.{holds_end}
use Rattle.ipcz_node.specs.Calls.{put_refusal, put_number, get_refusal, got_at, close_refusal}
use Rattle.ipcz_node.specs.declared.happened.Happened.{Happened}
use Rattle.ipcz_world.specs.declared.step.Reply.{Reply}
use Rattle.ipcz_world.specs.declared.step.Reply.TheVariants as replies
use Rattle.ipcz_rule.specs.Steps.{put_part, close_part}
use Rattle.ipcz_cell.specs.CellStates.{CellState}
use Rattle.ipcz_cell.specs.Opens.{OpensPair}
use Rattle.ipcz_cell.specs.Parts.{got_part}
use Rattle.ipcz_cell.specs.TableNames.{TableName}
use Rattle.ipcz_cell.specs.TurnEnds.{Turns}
use Rattle.ipcz_threads.specs.declared.call.Call.{Call}
use Rattle.ipcz_threads.specs.declared.call.Call.TheVariants as calls

-- the cell; whether some turn in a round found no memory; and how many acts the worker may still take in the round
pub record WorkerState : Type 0 where
  pub cell : CellState
  pub starved : Bool
  pub left : ℕ

-- what is replied if a call answers this
abbrev pub opened : Result (End × End) Refusal → Reply
opened (Ok ends) = replies.Opened ends.0 ends.1
opened (Err why) = replies.Refused why

abbrev pub put : Result ℕ Refusal → Reply
put (Ok n) = replies.Put n
put (Err why) = replies.Refused why

abbrev pub got : Result (ℕ × Parcel) Refusal → Reply
got (Ok g) = replies.Got g.0 g.1
got (Err why) = replies.Refused why

abbrev pub closed : Result ℕ Refusal → Reply
closed (Ok n) = replies.Closed n
closed (Err why) = replies.Refused why

abbrev pub turned : Result Happened Refusal → Reply
turned (Ok event) = replies.Turned event
turned (Err why) = replies.Refused why

-- what a put at a cell answers and leaves
abbrev pub Puts : End → List ℕ → List End → CellState → Result ℕ Refusal → CellState → Type 0
Puts at bytes ends c answer d = MatchResult answer
    (λ n. (put_refusal Printed c.part.state at bytes ends ≡ None) × (n ≡ put_number c.part.state at) × (d.part ≡ put_part at bytes ends c.part))
    (λ why. (why ≡ unwrap_or (put_refusal Printed c.part.state at bytes ends) OutOfMemory) × (d.part ≡ c.part))

-- what a get at a cell answers and leaves
abbrev pub Gets : End → CellState → Result (ℕ × Parcel) Refusal → CellState → Type 0
Gets at c answer d = MatchResult answer
    (λ g. (get_refusal c.part.state at ≡ None) × (got_at c.part.state at ≡ Some g) × (d.part ≡ got_part at c.part))
    (λ why. (get_refusal c.part.state at ≡ Some why) × (d.part ≡ c.part))

-- what a close at a cell answers and leaves
abbrev pub Closes : End → CellState → Result ℕ Refusal → CellState → Type 0
Closes at c answer d = MatchResult answer
    (λ n. (close_refusal c.part.state at ≡ None) × (n ≡ put_number c.part.state at) × (d.part ≡ close_part at c.part))
    (λ why. (why ≡ unwrap_or (close_refusal c.part.state at) OutOfMemory) × (d.part ≡ c.part))

-- what a cell replies to a call, and what it is after that
abbrev pub CallsCell : TableName → CellState → Call → Reply → CellState → Type 0
CallsCell t c calls.Open reply d = (answer : Result (End × End) Refusal) × OpensPair t c d answer × (reply ≡ opened answer)
CallsCell t c (calls.Put at bytes ends) reply d = (answer : Result ℕ Refusal) × Puts at bytes ends c answer d × (reply ≡ put answer)
CallsCell t c (calls.Get at) reply d = (answer : Result (ℕ × Parcel) Refusal) × Gets at c answer d × (reply ≡ got answer)
CallsCell t c (calls.Close at) reply d = (answer : Result ℕ Refusal) × Closes at c answer d × (reply ≡ closed answer)
CallsCell t c calls.Turn reply d = (answer : Result Happened Refusal) × Turns t c answer d × (reply ≡ turned answer)

-- a call on a worker's cell
abbrev pub CallsWorker : TableName → WorkerState → Call → Reply → WorkerState → Type 0
CallsWorker t w call reply v = CallsCell t w.cell call reply v.cell × (v.starved ≡ w.starved) × (v.left ≡ w.left)

-- a call at the node of a number, after which only its worker may have changed; one that isn't there is a Stranger
abbrev pub CallsAt : TableName → List WorkerState → ℕ → Call → Reply → List WorkerState → Type 0
CallsAt t ws node call reply vs = MatchOption (slice_get ws node) ((reply ≡ replies.Refused Stranger) × (vs ≡ ws))
    (λ w. (v : WorkerState) × CallsWorker t w call reply v × (vs ≡ slice_set ws node v))

-- the first node from one on whose callers hold the end, if some do
abbrev pub holder_from : List WorkerState → ℕ → End → Option ℕ
holder_from [] node end = None
holder_from (w ∷ ws) node end = if holds_end w.cell.part.state end then Some node else holder_from ws (node + 1) end
