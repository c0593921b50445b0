-- The workers of a script's nodes with what its names are bound to, and what each command does to them.
use Rattle.std.specs.Prelude.{◌≡◌, ◌<◌, ℕ, zero, suc, Bool, false, MatchBool, MatchOption, List, [], ◌∷◌, length, if◌then◌else◌}
use Rattle.std.specs.FinMap.{get}
use Rattle.ipcz_base.specs.declared.end.End.{End}
use Rattle.ipcz_world.specs.declared.step.Reply.{Reply}
use Rattle.ipcz_world.specs.declared.step.Reply.TheVariants as replies
use Rattle.ipcz_script.specs.declared.command.Command.{Command}
use Rattle.ipcz_script.specs.declared.command.Command.TheVariants as commands
use Rattle.ipcz_script.specs.declared.said.Said.{Said}
use Rattle.ipcz_script.specs.declared.said.Said.TheVariants as said
use Rattle.ipcz_script.specs.Labels.{Labels, bind, ends_of}
use Rattle.ipcz_script.specs.Sessions.{answer_to, is_want, is_idle_reply}
use Rattle.ipcz_cell.specs.TableNames.{TableName}
use Rattle.ipcz_threads.specs.declared.call.Call.{Call}
use Rattle.ipcz_threads.specs.declared.call.Call.TheVariants as calls
use Rattle.ipcz_threads.specs.Workers.{WorkerState, CallsAt, holder_from}
use Rattle.ipcz_threads.specs.Rounds.{Gates, IsRound, AreAsked, is_some_starved, left_after}
use Rattle.ipcz_threads.specs.Shows.{FirstTells}

pub record Stage : Type 0 where
  pub workers : List WorkerState
  pub labels : Labels

-- nothing changes, and this is said
abbrev pub Keeps : Stage → Said → Said → Stage → Type 0
Keeps s word answer u = (answer ≡ word) × (u ≡ s)

-- a call at a node is replied to, and not for want of memory
abbrev pub Replies : TableName → Stage → ℕ → Call → Reply → Said → Stage → Type 0
Replies t s node call reply answer u = CallsAt t s.workers node call reply u.workers × (is_want reply ≡ false) × (answer ≡ answer_to reply)

-- a call at a node is answered so
abbrev pub Calls : TableName → Stage → ℕ → Call → Said → Stage → Type 0
Calls t s node call answer u = (reply : Reply) × Replies t s node call reply answer u × (u.labels ≡ s.labels)

-- the labels once an open was replied to: one that succeeds binds its two names
unfoldable pub named : Labels → List ℕ → List ℕ → Reply → Labels
named l first second (replies.Opened a b) = bind (bind l first a) second b
named l first second other = l

-- an open is answered so
abbrev pub Opens : TableName → Stage → ℕ → List ℕ → List ℕ → Said → Stage → Type 0
Opens t s node first second answer u = (reply : Reply) × Replies t s node calls.Open reply answer u
    × (u.labels ≡ named s.labels first second reply)

-- a call at the node whose callers hold the end, if some do
abbrev pub CallsHolder : TableName → Stage → End → Call → Said → Stage → Type 0
CallsHolder t s end call answer u =
    MatchOption (holder_from s.workers 0 end) (Keeps s said.Away answer u) (λ node. Calls t s node call answer u)

-- a call at the end that a name is bound to, if it is bound
abbrev pub CallsNamed : TableName → Stage → List ℕ → (End → Call) → Said → Stage → Type 0
CallsNamed t s at call answer u =
    MatchOption (get s.labels.names at) (Keeps s said.UnknownName answer u) (λ end. CallsHolder t s end (call end) answer u)

-- a put with the ends that these names are bound to, if each is bound
abbrev pub Puts : TableName → Stage → List ℕ → List ℕ → List (List ℕ) → Said → Stage → Type 0
Puts t s at text attached answer u = MatchOption (get s.labels.names at) (Keeps s said.UnknownName answer u)
    (λ end. MatchOption (ends_of s.labels attached) (Keeps s said.UnknownName answer u)
    (λ ends. CallsHolder t s end (calls.Put end text ends) answer u))

-- these are the replies to so many turns of a node, or fewer if one was idle
abbrev pub AreTurns : TableName → ℕ → ℕ → List WorkerState → List Reply → List WorkerState → Type 0
AreTurns t zero node ws [] vs = vs ≡ ws
AreTurns t zero node ws (r ∷ rs) vs = ⊥
AreTurns t (suc left) node ws [] vs = ⊥
AreTurns t (suc left) node ws (r ∷ rs) vs =
    (us : List WorkerState) × CallsAt t ws node calls.Turn r us × (is_want r ≡ false)
    × MatchBool (is_idle_reply r) ((rs ≡ []) × (vs ≡ us)) (AreTurns t left node us rs vs)

-- a turn command is answered by the replies to its turns
abbrev pub TurnsTo : TableName → ℕ → ℕ → List WorkerState → Said → List WorkerState → Type 0
TurnsTo t count node ws (said.Turned turns) vs = AreTurns t count node ws turns vs
TurnsTo t count node ws other vs = ⊥

-- so many rounds, with so many acts left before the first: before each, and after the last, all workers are asked whether their nodes have
-- nothing to do. Before each some node has, and some act is left; each worker may take what is left, and the round finds memory. After
-- the last all are quiet, or no act is left
abbrev pub TakesRounds : Gates → TableName → ℕ → ℕ → List WorkerState → Bool → List WorkerState → Type 0
TakesRounds gates t zero left ws quiet vs = AreAsked t (length ws) 0 ws quiet vs × (quiet ≡ false → left ≡ 0)
TakesRounds gates t (suc rounds) left ws quiet vs =
    (us xs : List WorkerState) × (0 < left) × AreAsked t (length ws) 0 ws false us
    × IsRound gates t left us xs × (is_some_starved xs ≡ false)
    × TakesRounds gates t rounds (left_after left xs) xs quiet vs

-- a settle is some rounds, and says whether all nodes were quiet in the end
abbrev pub Settles : Gates → TableName → ℕ → List WorkerState → Bool → List WorkerState → Type 0
Settles gates t limit ws quiet vs = (rounds : ℕ) × TakesRounds gates t rounds limit ws quiet vs

-- a settle is answered by whether all nodes were quiet in the end
abbrev pub SettlesTo : Gates → TableName → ℕ → List WorkerState → Said → List WorkerState → Type 0
SettlesTo gates t limit ws answer vs = (quiet : Bool) × Settles gates t limit ws quiet vs
    × (answer ≡ (if quiet then said.Settled else said.Unsettled))

-- a show is answered by the claimed link words, as the first worker's cell finds them
abbrev pub Shows : TableName → Stage → Said → Stage → Type 0
Shows t s answer u = (words : List ℕ) × (answer ≡ said.Words words) × (u.labels ≡ s.labels) × FirstTells t s.workers words u.workers

-- what a command may be answered, and the stage after it
abbrev pub Runs : Gates → TableName → Stage → Command → Said → Stage → Type 0
Runs gates t s (commands.Open node first second) answer u = Opens t s node first second answer u
Runs gates t s (commands.Put at text attached) answer u = Puts t s at text attached answer u
Runs gates t s (commands.Get at) answer u = CallsNamed t s at calls.Get answer u
Runs gates t s (commands.Close at) answer u = CallsNamed t s at calls.Close answer u
Runs gates t s (commands.Turn node count) answer u = TurnsTo t count node s.workers answer u.workers × (u.labels ≡ s.labels)
Runs gates t s (commands.Settle limit) answer u = SettlesTo gates t limit s.workers answer u.workers × (u.labels ≡ s.labels)
Runs gates t s commands.Show answer u = Shows t s answer u
