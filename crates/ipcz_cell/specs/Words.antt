-- The link words of a cell: what the calls on them require, answer and leave.
use Rattle.std.specs.Prelude.{◌≡◌, ◌≢◌, ◌<◌, ℕ, [], ◌∷◌, ◌++◌, List, Bool, true, false, Option, Some, None, Result, Ok, Err, MatchResult, IfOk}
use Rattle.ipcz_base.specs.declared.side.Side.{Side}
use Rattle.ipcz_base.specs.declared.refusal.Refusal.{Refusal}
use Rattle.ipcz_base.specs.declared.refusal.Refusal.TheVariants.{Raced}
use Rattle.ipcz_word.specs.declared.lock_plan.LockPlan.{LockPlan}
use Rattle.ipcz_word.specs.declared.lock_plan.LockPlan.TheVariants.{Lock, Wait, Refused}
use Rattle.ipcz_word.specs.Layout.{word_of_bits, bits_of, plan_bits}
use Rattle.ipcz_word.specs.Word.{plan_of}
use Rattle.ipcz_router.specs.Router.{Router, primary_word}
use Rattle.ipcz_router.specs.declared.act.RouterAct.{RouterAct}
use Rattle.ipcz_router.specs.declared.act.RouterAct.TheVariants as router_acts
use Rattle.ipcz_node.specs.declared.act.Act.TheVariants as acts
use Rattle.ipcz_node.specs.Node.{Node, word_side, source_in}
use Rattle.ipcz_world.specs.Coding.{IsLinkNumber}
use Rattle.ipcz_world.specs.WordAnswers.{word_answer, word_after}
use Rattle.ipcz_rule.specs.Steps.{act_part, CanAct}
use Rattle.ipcz_cell.specs.CellStates.{CellState}
use Rattle.ipcz_cell.specs.declared.words.LockTry.{LockTry}

-- the router of a serial may do an act, on the word i at this side
pub record CanWord (x : Node) (serial : ℕ) (side : Side) (act : RouterAct) (i : ℕ) : Type 0 where
  pub router : Router
  pub can : CanAct x serial router act
  pub primary : primary_word router ≡ Some i
  pub sides : router.end.side ≡ side

-- whether a plan is that the lock is refused
abbrev pub is_refused_plan : LockPlan → Bool
is_refused_plan (Lock new) = false
is_refused_plan (Wait new) = false
is_refused_plan Refused = true

-- what a try for the lock has seen: one load, and one exchange unless the load found that it is refused
abbrev pub lock_seen : ℕ → ℕ → LockPlan → List (ℕ × ℕ) → List (ℕ × ℕ)
lock_seen i n (Lock new) seen = (seen ++ (i, n) ∷ []) ++ (i, n) ∷ []
lock_seen i n (Wait new) seen = (seen ++ (i, n) ∷ []) ++ (i, n) ∷ []
lock_seen i n Refused seen = seen ++ (i, n) ∷ []

-- what is left of a try for the lock at the word i, which was found at n, if the lock names this source
abbrev pub Tried : ℕ → ℕ → ℕ → Side → Option ℕ → CellState → Result LockPlan Refusal → CellState → Type 0
Tried i n serial side source old answer new = MatchResult answer
    (λ plan. (plan ≡ plan_bits n side source (plan_of (word_of_bits n) side)) ×
    (new.part ≡ act_part (acts.Router serial router_acts.Lock) (word_answer (word_of_bits n) side source router_acts.Lock) old.part) ×
    (new.seen ≡ lock_seen i n plan old.seen))
    (λ why. (why ≡ Raced) × ((found : ℕ) × (found ≢ n) × (new.part ≡ old.part) × (new.seen ≡ (old.seen ++ (i, n) ∷ []) ++ (i, found) ∷ [])))

-- what a try for the lock answers and leaves, if a lock names the node inward of its router: Raced only if the load and the exchange
-- found different words
pub record TriesLock (size serial : ℕ) (old : CellState) (answer : Result LockPlan Refusal) (new : CellState) : Type 0 where
  pub word : ℕ
  pub side : Side
  pub loaded : ℕ
  pub named : word_side old.part.state serial ≡ Some (word, side)
  pub inside : word < size
  pub is_word : IsLinkNumber loaded
  pub tried : Tried word loaded serial side (source_in old.part.state serial) old answer new

-- the plan of a try for the lock
abbrev pub plan_in : Result LockTry Refusal → Result LockPlan Refusal
plan_in (Ok try) = Ok try.plan
plan_in (Err why) = Err why

-- the same try, with the word and what the load has found
pub record LocksWord (size serial : ℕ) (old : CellState) (answer : Result LockTry Refusal) (new : CellState) : Type 0 where
  pub word : ℕ
  pub side : Side
  pub loaded : ℕ
  pub named : word_side old.part.state serial ≡ Some (word, side)
  pub inside : word < size
  pub is_word : IsLinkNumber loaded
  pub tried : Tried word loaded serial side (source_in old.part.state serial) old (plan_in answer) new
  pub told : IfOk answer (λ try. (try.word ≡ word) × (try.found ≡ loaded))

-- what an act on a word that needs no luck answers, the word after, and leaves; it names no source
pub record ActsOnWord (serial : ℕ) (act : RouterAct) (old : CellState) (answer : ℕ) (new : CellState) : Type 0 where
  pub word : ℕ
  pub side : Side
  pub found : ℕ
  pub named : word_side old.part.state serial ≡ Some (word, side)
  pub is_word : IsLinkNumber found
  pub after : answer ≡ bits_of (word_after (word_of_bits found) side None act)
  pub part : new.part ≡ act_part (acts.Router serial act) (word_answer (word_of_bits found) side None act) old.part
  pub seen : new.seen ≡ old.seen ++ (word, found) ∷ []
