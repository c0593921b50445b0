-- What a table that keeps its rule shows, in the accounts of the promise (specs/Promise of ipcz_promise).
use Rattle.std.specs.Prelude.{◌≡◌, ◌≢◌, ◌⊎◌, ◌<◌, ◌+◌, ◌*◌, ℕ, Bool, true, not, List, Some, None, slice_get, slice_index, unwrap_or}
use Rattle.ipcz_base.specs.declared.end.End.{End}
use Rattle.ipcz_base.specs.declared.item.Item.TheVariants.{Parcel, Mark}
use Rattle.ipcz_base.specs.declared.parcel.Parcel as parcels
use Rattle.ipcz_base.specs.declared.profile.Profile.{Profile}
use Rattle.ipcz_base.specs.declared.refusal.Refusal.{Refusal}
use Rattle.ipcz_base.specs.declared.refusal.Refusal.TheVariants.{Empty, NoWord, NumbersEnd, OutOfMemory}
use Rattle.ipcz_node.specs.declared.act.Act.{Act}
use Rattle.ipcz_node.specs.Node.{holds_end}
use Rattle.ipcz_node.specs.Acts.{is_quiet}
use Rattle.ipcz_node.specs.Calls.{put_refusal, get_refusal, close_refusal}
use Rattle.ipcz_world.specs.declared.step.Step.{Step}
use Rattle.ipcz_world.specs.declared.step.Step.TheVariants.{Open, Get, Close}
use Rattle.ipcz_world.specs.declared.step.Reply.TheVariants.{Refused}
use Rattle.ipcz_world.specs.Lawful.{IsWithinLimits}
use Rattle.ipcz_world.specs.Steps.{put_of}
use Rattle.ipcz_rule.specs.declared.view.View.{View}
use Rattle.ipcz_rule.specs.Rule.{InParts, puts_of, gets_of}
use Rattle.ipcz_rule.specs.RuleLaws.{EachPart}
use Rattle.ipcz_rule.specs.Batches.{BatchSt, Batched}
use Rattle.ipcz_rule.specs.BatchLaws.{HasNoBatch}
use Rattle.ipcz_rule.specs.TableRuns.{Ruled, AreSteps, all_turns}
use Rattle.ipcz_rule.specs.Deeds.{Deed, steps_of, replies_of}
use Rattle.ipcz_rule.specs.LastingRuns.{LastingRuled, AreTableSteps, all_deeds, folded}
use Rattle.ipcz_rule.specs.LastingStart.{ShowsStart}
use Rattle.ipcz_promise.specs.Promise.{Account, HasClosedDropped, IsDelivered, IsInOrder, May, MayRun, holds, start}
use Rattle.ipcz_promise.specs.Accounting.{Keeps}
use Rattle.ipcz_promise.specs.TurnRuns.{MayTakeTurns}

-- the accounts are those that the seats' views tell: each node's callers hold what its part says, the parcels that were put and got stand in the
-- views under their numbers, and an end is closed if a view has its mark
pub record TellsAccount (count size : ℕ) (views : List View) (a : Account) : Type 0 where
  pub nodes : a.nodes ≡ count
  pub words : a.words ≡ size
  pub holder : EachPart views (λ p. (e : End) → holds a p.node e ≡ holds_end p.state e)
  pub put : (e : End) (n : ℕ) (q : parcels.Parcel) → slice_get (a.put e) n ≡ Some q → InParts views puts_of ((e, n), Parcel q)
  pub put_only : (e : End) (n : ℕ) (q : parcels.Parcel) → InParts views puts_of ((e, n), Parcel q) → slice_get (a.put e) n ≡ Some q
  pub got : (e : End) (n : ℕ) (q : parcels.Parcel) → slice_get (a.got e) n ≡ Some q → InParts views gets_of ((e, n), q)
  pub got_only : (e : End) (n : ℕ) (q : parcels.Parcel) → InParts views gets_of ((e, n), q) → slice_get (a.got e) n ≡ Some q
  pub closed : (e : End) → a.closed e ≡ true → (n : ℕ) × InParts views puts_of ((e, n), Mark)
  pub closed_only : (e : End) (n : ℕ) → InParts views puts_of ((e, n), Mark) → a.closed e ≡ true

-- nobody holds a closed portal
abbrev pub HoldsNoClosed : Account → Type 0
HoldsNoClosed a = (e : End) → a.closed e ≡ true → a.holder e ≡ None

-- law: each table that keeps its rule tells accounts, in order
abbrev pub TablesTellAccounts : Type 0
TablesTellAccounts =
    (count size : ℕ) (alone : Bool) (s : BatchSt) → Batched count size alone s → (a : Account) × TellsAccount count size s.views a × IsInOrder a × HoldsNoClosed a

-- the world that a table shows keeps these accounts
abbrev pub TableKeeps : {count size : ℕ} {alone : Bool} → Ruled count size alone → Account → Type 0
TableKeeps t a = Keeps t.1.rules.world a

-- the table of batches that one folds whose link words come back: there they don't
abbrev pub batched : {count limit k : ℕ} {reuses : Bool} → LastingRuled count limit k reuses → Ruled count limit (not reuses)
batched p = (p.1.0, p.1.1)

-- law: steps that turns take, of any seats and in whatever order, are turns of the machine
abbrev pub TableTurnsKeepThePromise : Type 0
TableTurnsKeepThePromise =
    (count size : ℕ) (alone : Bool) (t u : Ruled count size alone) (steps : List (List (ℕ × Act))) (a : Account) → TableKeeps t a →
    AreSteps count size alone t steps u →
    (c : Account) × MayTakeTurns t.1.rules.world a (all_turns steps) c × TableKeeps u c

-- law: whatever callers call on threads of their own and whatever nodes do, in the order of the atomic steps all calls with their answers, and all turns
-- with what is seen in them, are a run of the machine; and the world that is shown behind them keeps the accounts that the machine comes to
abbrev pub TableRunsKeepThePromise : Type 0
TableRunsKeepThePromise =
    (count limit k : ℕ) (reuses : Bool) (p q : LastingRuled count limit k reuses) (steps : List (List Deed)) (a : Account) →
    TableKeeps (batched p) a → AreTableSteps count limit k reuses p steps q →
    (c : Account) × MayRun a (steps_of (all_deeds steps)) (replies_of (all_deeds steps)) c × TableKeeps (batched q) c

-- law: so a run of a table from its start is one of the machine from its own; and the accounts that the machine comes to are those that the seats' views
-- tell then
abbrev pub StartedTablesKeepThePromise : Type 0
StartedTablesKeepThePromise =
    (count limit k : ℕ) (reuses : Bool) (p q : LastingRuled count limit k reuses) (steps : List (List Deed)) → IsWithinLimits count limit →
    ShowsStart count limit (folded p) → AreTableSteps count limit k reuses p steps q →
    (c : Account) × MayRun (start count limit) (steps_of (all_deeds steps)) (replies_of (all_deeds steps)) c ×
    TableKeeps (batched q) c × TellsAccount count limit (batched q).0.views c

-- a call of a node's callers may be refused so, and changes nothing
abbrev pub MayBeRefused : Account → Step → Refusal → Type 0
MayBeRefused a step why = May a step (Refused why) a

-- law: what a cell answers in place of a call by its own part, or for want of memory or of a word, the machine may answer at these accounts
pub record RefusalsAreAllowed : Type 0 where
  pub put : (count size : ℕ) (alone : Bool) (t : Ruled count size alone) (a : Account) → TableKeeps t a →
      EachPart t.0.views (λ p. (profile : Profile) (at : End) (bytes : List ℕ) (ends : List End) →
      MayBeRefused a (put_of profile p.node at bytes ends) (unwrap_or (put_refusal profile p.state at bytes ends) OutOfMemory))
  pub get : (count size : ℕ) (alone : Bool) (t : Ruled count size alone) (a : Account) → TableKeeps t a →
      EachPart t.0.views (λ p. (at : End) (why : Refusal) → get_refusal p.state at ≡ Some why → MayBeRefused a (Get p.node at) why)
  pub close : (count size : ℕ) (alone : Bool) (t : Ruled count size alone) (a : Account) → TableKeeps t a →
      EachPart t.0.views (λ p. (at : End) → MayBeRefused a (Close p.node at) (unwrap_or (close_refusal p.state at) OutOfMemory))
  pub open_pair : (count size : ℕ) (alone : Bool) (t : Ruled count size alone) (a : Account) → TableKeeps t a →
      EachPart t.0.views (λ p. (why : Refusal) → (why ≡ NoWord) ⊎ ((why ≡ NumbersEnd) ⊎ (why ≡ OutOfMemory)) → MayBeRefused a (Open p.node) why)

-- no mailbox of a table is full
abbrev pub HasNoMail : ℕ → ℕ → BatchSt → Type 0
HasNoMail count size s = (k : ℕ) → k < count * count → slice_index s.words (size + 1 + count + k) ≢ 1

-- law: at rest, with nothing left of a batch, portals in dropped parcels are closed, and a get is Empty only if all was got and the peer isn't closed
abbrev pub QuietTablesDeliver : Type 0
QuietTablesDeliver =
    (count size : ℕ) (alone : Bool) (t : Ruled count size alone) (a : Account) → TableKeeps t a →
    EachPart t.0.views (λ p. (is_quiet p.state ≡ true) × HasNoBatch count p) → HasNoMail count size t.0 →
    HasClosedDropped a × EachPart t.0.views (λ p. (at : End) → get_refusal p.state at ≡ Some Empty → IsDelivered a at)
