-- Why a node is stopped, as a desk keeps it beside the history.
use Rattle.std.proofs.Common.{arith, ◌≡◌, ◌∙◌, ℕ, List, [], ◌∷◌, ◌++◌, refl, ap, sym, subst, inl, inr}
use Rattle.std.specs.Prelude.{Option, Some, None, Result, Ok, Err, IfErr, IfSome, MatchResult}
use Rattle.ipcz_base.specs.declared.refusal.Refusal.{Refusal}
use Rattle.ipcz_base.specs.declared.refusal.Refusal.TheVariants as refusals
use Rattle.ipcz_rule.specs.declared.history.Call.{Call}
use Rattle.ipcz_rule.specs.declared.history.Call.TheVariants as calls
use Rattle.ipcz_rule.specs.declared.history.CallerView.{CallerView}
use Rattle.ipcz_rule.specs.declared.history.Entry.{Entry}
use Rattle.ipcz_rule.specs.declared.view.Part.{Part}
use Rattle.ipcz_rule.specs.Histories.{at_node, entry_of, noted}
use Rattle.ipcz_base.specs.declared.end.End.{End}
use Rattle.ipcz_cell.specs.Callers.{IsWritten}
use Rattle.ipcz_cell.specs.CellStates.{CellState}
use Rattle.ipcz_cell.specs.TableNames.{TableName}
use Rattle.ipcz_fabric.specs.declared.missed.Missed.{Missed}
use Rattle.ipcz_fabric.specs.declared.missed.Missed.TheVariants.{Refused, Stopped}
use Rattle.ipcz_fabric.specs.Portals.{IsRefusedTake}
use Rattle.ipcz_fabric.specs.Replays.{Does, IsReached, entered}
use Rattle.ipcz_fabric.specs.Stopping.{IsMissed, IsMissing, IsStop, TellsStop, answer_of, refusal_of, stop_after, stop_behind, stop_in, stop_of}
use Rattle.ipcz_fabric.proofs.Books.{same_book}
use Rattle.ipcz_fabric.proofs.Portaling.{take_refused}
use Rattle.ipcz_fabric.proofs.Replaying.{reached_first, reached_more}

-- behind a call more
stop_more : (stop : Option Refusal) (es : List Entry) (e : Entry) → stop_behind stop (es ++ e ∷ []) ≡ stop_after (stop_behind stop es) e.call
stop_more stop [] e = refl
stop_more stop (d ∷ es) e = stop_more (stop_after stop d.call) es e

stop_noted : (p q r : Part) (e : Entry) → q.history ≡ p.history → r ≡ noted e q → stop_after (stop_in p.history) e.call ≡ stop_in r.history
stop_noted p q r e same is = sym (ap (λ (x : Part). stop_in x.history) is ∙ (ap (λ (h : List Entry). stop_in (h ++ e ∷ [])) same ∙ stop_more None p.history e))

-- a desk whose node has just come behind its lock
pub desk_first : (t : TableName) (p q : Part) (by : ℕ) → q ≡ entered by p → IsReached t q × (None ≡ stop_in q.history)
desk_first t p q by is = (reached_first t p q by is, stop_noted p p q (entry_of p.node by (calls.Entered p.state)) refl is)

-- and a desk after a call more
pub desk_more : (t : TableName) (call : Call) (by : ℕ) (p q r : Part) (stop : Option Refusal) → IsReached t p × (stop ≡ stop_in p.history) → Does t call p q →
    r ≡ noted (entry_of q.node by call) q → IsReached t r × (stop_after stop call ≡ stop_in r.history)
desk_more t call by p q r stop desk does is = (
  reached_more t call by p q r desk.0 does is,
  ap (λ (s : Option Refusal). stop_after s call) desk.1 ∙ stop_noted p q r (entry_of q.node by call) (same_book t call p q does).history is,
)

-- what stops a node is a want of memory or of numbers
of_answer : {A : Type 0} (answer : Result A Refusal) (why : Refusal) → stop_of answer ≡ Some why → IsStop why
of_answer (Ok a) why h = cc
of_answer (Err refusals.OutOfMemory) why h = inl (grind (arith, h))
of_answer (Err refusals.NumbersEnd) why h = inr (grind (arith, h))
of_answer (Err other) why h = cc

abbrev AreStops : Option Refusal → Type 0
AreStops stop = (why : Refusal) → stop ≡ Some why → IsStop why

nothing : AreStops None
nothing why h = cc

after_call : (stop : Option Refusal) (call : Call) → AreStops stop → AreStops (stop_after stop call)
after_call stop (calls.Entered state) good = nothing
after_call stop (calls.Turned answer) good = of_answer answer
after_call stop (calls.Acted limit answer) good = of_answer answer
after_call stop (calls.Opened answer) good = good
after_call stop (calls.Retried answer) good = good
after_call stop (calls.Put profile at bytes ends answer) good = good
after_call stop (calls.Got at answer) good = good
after_call stop (calls.Taken at answer) good = good
after_call stop (calls.Closed at answer) good = good

behind_calls : (stop : Option Refusal) (es : List Entry) → AreStops stop → AreStops (stop_behind stop es)
behind_calls stop [] good = good
behind_calls stop (e ∷ es) good = behind_calls (stop_after stop e.call) es (after_call stop e.call good)

-- what a desk keeps is one of these
pub stopped_for : (stop : Option Refusal) (es : List Entry) → stop ≡ stop_in es → IfSome stop IsStop
stopped_for None es is = tt
stopped_for (Some why) es is = behind_calls None es nothing why (sym is)

-- what a caller of a desk knows of why its node is stopped, behind a call
pub tells_at : (t : TableName) (call : Call) (o old done new : CellState) (c c' : CallerView) (stop : Option Refusal) → o ≡ old → IsReached t o.part × (stop ≡ stop_in o.part.history) →
    Does t call o.part done.part → new.part ≡ noted (entry_of done.part.node c.id call) done.part →
    IsWritten (entry_of done.part.node c.id call) new.part.history c c' → stop_after stop call ≡ stop_in (at_node old.part.node c'.seen)
tells_at t call o old done new c c' stop is desk does told written =
    let node : done.part.node ≡ old.part.node = (same_book t call o.part done.part does).node ∙ ap (λ (x : CellState). x.part.node) is in
    (desk_more t call c.id o.part done.part new.part stop desk does told).1 ∙
    ap stop_in (sym written.history_is ∙ ap (λ (n : ℕ). at_node n c'.seen) node)

-- of a get that gave none
pub tells_of : {A : Type 0} (r : Result A Missed) (stop new : Option Refusal) → stop ≡ new → IfErr r (TellsStop stop) → IfErr r (TellsStop new)
tells_of r stop new is h = subst (λ (s : Option Refusal). IfErr r (TellsStop s)) is h

-- why it gave none
pub missed_by : (t : TableName) (node : ℕ) (at : End) (es : List Entry) (e : Missed) → IsRefusedTake t node at (refusal_of e) → TellsStop (stop_in es) e → IsMissed t node at e
missed_by t node at es (Refused why) h tells = h
missed_by t node at es (Stopped why) h tells = (h, behind_calls None es nothing why tells)

pub missing_by : (t : TableName) (node : ℕ) (at : End) (e : Missed) → IsMissed t node at e → IsMissing e
missing_by t node at (Refused why) h = take_refused h.cell.part.state at why h.holds
missing_by t node at (Stopped why) h = h.1

-- what holds by what the get was answered holds by what came of it
pub match_of : {A : Type 0} (r : Result A Missed) (a : Result A Refusal) → answer_of r ≡ a → (L M : Result A Refusal → Type 0) →
    MatchResult a (λ _. L a) (λ _. M a) → MatchResult r (λ _. L (answer_of r)) (λ _. M (answer_of r))
match_of {A} r a is L M h = go r (subst (λ (z : Result A Refusal). MatchResult z (λ _. L z) (λ _. M z)) (sym is) h)
  where
    go : (q : Result A Missed) → MatchResult (answer_of q) (λ _. L (answer_of q)) (λ _. M (answer_of q)) → MatchResult q (λ _. L (answer_of q)) (λ _. M (answer_of q))
    go (Ok x) k = k
    go (Err e) k = k

-- why each get that gave none gave none
pub missed_all : {A : Type 0} (t : TableName) (node : ℕ) (at : End) (es : List Entry) {Q : Refusal → Type 0} → ((why : Refusal) → Q why → IsRefusedTake t node at why) →
    (r : Result A Missed) → IfErr r (λ e. Q (refusal_of e)) → IfErr r (TellsStop (stop_in es)) → IfErr r (IsMissed t node at)
missed_all t node at es refused (Ok a) h tells = tt
missed_all t node at es refused (Err e) h tells = missed_by t node at es e (refused (refusal_of e) h) tells
