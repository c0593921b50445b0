-- What no call changes of a part: its node, and what its history has. Only what is written down behind a call stands there.
use Rattle.std.proofs.Common.{◌≡◌, ◌⊎◌, ◌<◌, ℕ, List, [], ◌∷◌, Option, Some, None, Result, Ok, Err, inl, inr, refl, sym, ap, ◌∙◌}
use Rattle.ipcz_base.specs.declared.end.End.{End}
use Rattle.ipcz_base.specs.declared.parcel.Parcel as parcels
use Rattle.ipcz_base.specs.declared.refusal.Refusal.{Refusal}
use Rattle.ipcz_router.specs.Router.{Router}
use Rattle.ipcz_router.specs.declared.act.Answer.{Answer}
use Rattle.ipcz_router.specs.declared.act.RouterAct.{RouterAct}
use Rattle.ipcz_router.specs.declared.act.RouterAct.TheVariants as router_acts
use Rattle.ipcz_node.specs.Node.{Node, router_in}
use Rattle.ipcz_node.specs.Acts.{commit}
use Rattle.ipcz_node.specs.Calls.{got_at}
use Rattle.ipcz_node.specs.declared.act.Act.{Act}
use Rattle.ipcz_node.specs.declared.act.Act.TheVariants as acts
use Rattle.ipcz_node.specs.declared.happened.Happened.{Happened}
use Rattle.ipcz_rule.specs.declared.history.Call.{Call}
use Rattle.ipcz_rule.specs.declared.history.Call.TheVariants as calls
use Rattle.ipcz_rule.specs.declared.retry.Retry.{Retry}
use Rattle.ipcz_rule.specs.declared.view.Part.{Part}
use Rattle.ipcz_rule.specs.Rule.{with_state}
use Rattle.ipcz_rule.specs.Steps.{act_part, written_part, dropped_part, retired_part}
use Rattle.ipcz_cell.specs.CellStates.{CellState}
use Rattle.ipcz_cell.specs.Opens.{OpensPair, OpensWord, UnderWay, Fresh, NoneLeft, NoSlot, Unready, Lost, claimed_for_open}
use Rattle.ipcz_cell.specs.Parts.{part_got}
use Rattle.ipcz_cell.specs.Retries.{Retries, NobodyWaits, InVain, Anew}
use Rattle.ipcz_cell.specs.TableNames.{TableName}
use Rattle.ipcz_cell.specs.TurnChains.{AreTurns, Did, RunsTurns, IsIdleTurn}
use Rattle.ipcz_cell.specs.TurnEnds.{IsAfter, Turns}
use Rattle.ipcz_fabric.specs.Replays.{Changes, ClosesAt, Does, GivesAt, PutsAt}

pub record SameBook (p q : Part) : Type 0 where
  pub node : q.node ≡ p.node
  pub history : q.history ≡ p.history

pub by_part : (p q r : Part) → r ≡ q → SameBook p q → SameBook p r
by_part p q r is same = record { node = ap (λ (x : Part). x.node) is ∙ same.node; history = ap (λ (x : Part). x.history) is ∙ same.history }

pub one_part : (p q : Part) → q ≡ p → SameBook p q
one_part p q is = by_part p p q is (record { node = refl; history = refl })

pub both_books : (p q r : Part) → SameBook p q → SameBook q r → SameBook p r
both_books p q r one two = record { node = two.node ∙ one.node; history = two.history ∙ one.history }

got_book : (at : End) (o : Option (ℕ × parcels.Parcel)) (p : Part) → SameBook p (part_got at o p)
got_book at None p = record { node = refl; history = refl }
got_book at (Some g) p = record { node = refl; history = refl }

dropped_book : (o : Option Router) (p : Part) → SameBook p (dropped_part o p)
dropped_book None p = record { node = refl; history = refl }
dropped_book (Some r) p = record { node = refl; history = refl }

retired_book : (o : Option Router) (p : Part) → SameBook p (retired_part o p)
retired_book None p = record { node = refl; history = refl }
retired_book (Some r) p = record { node = refl; history = refl }

routed_book : (n : Node) (serial : ℕ) (act : RouterAct) (p : Part) → SameBook p (written_part n (acts.Router serial act) p)
routed_book n serial router_acts.Discard p = dropped_book (router_in n serial) p
routed_book n serial router_acts.Retire p = retired_book (router_in n serial) p
routed_book n serial other p = record { node = refl; history = refl }

written_book : (n : Node) (act : Act) (p : Part) → SameBook p (written_part n act p)
written_book n (acts.Router serial act) p = routed_book n serial act p
written_book n (acts.Hand from) p = record { node = refl; history = refl }
written_book n (acts.Look from) p = record { node = refl; history = refl }
written_book n (acts.Post to) p = record { node = refl; history = refl }
written_book n (acts.Close e) p = record { node = refl; history = refl }
written_book n acts.Idle p = record { node = refl; history = refl }

acted_book : (act : Act) (answer : Answer) (p : Part) → SameBook p (act_part act answer p)
acted_book act answer p = let written = written_book p.state act (with_state (commit p.state act answer) p) in record { node = written.node; history = written.history }

after_book : (t : TableName) (act : Act) (answer : Answer) (seen : List (ℕ × ℕ)) (p q : Part) → IsAfter t act answer seen p q → SameBook p q
after_book t (acts.Hand from) answer seen p q h = record { node = ap (λ (x : Part). x.node) h.2; history = ap (λ (x : Part). x.history) h.2 }
after_book t (acts.Look from) answer seen p q h = record { node = ap (λ (x : Part). x.node) h.2; history = ap (λ (x : Part). x.history) h.2 }
after_book t (acts.Post to) answer seen p q h = record { node = ap (λ (x : Part). x.node) h; history = ap (λ (x : Part). x.history) h }
after_book t (acts.Router serial act) answer seen p q h = by_part p _ q h (acted_book (acts.Router serial act) answer p)
after_book t (acts.Close e) answer seen p q h = by_part p _ q h (acted_book (acts.Close e) answer p)
after_book t acts.Idle answer seen p q h = by_part p _ q h (acted_book acts.Idle answer p)

-- a turn
pub turned_book : (t : TableName) (old new : CellState) (answer : Result Happened Refusal) → Turns t old answer new → SameBook old.part new.part
turned_book t old new (Ok event) turn = let done = turn.outcome.done in after_book t turn.outcome.taken done.answer turn.found old.part new.part done.part
turned_book t old new (Err why) turn = one_part old.part new.part turn.outcome.0

turns_book : (t : TableName) (did : List Did) (old new : CellState) → AreTurns t old did new → SameBook old.part new.part
turns_book t [] old new is = one_part old.part new.part (ap (λ (c : CellState). c.part) is)
turns_book t (d ∷ more) old new turns = both_books old.part turns.0.part new.part (turned_book t old turns.0 (Ok d.event) turns.1.turn) (turns_book t more turns.0 new turns.2)

-- turns one after the other
pub acted_books : (t : TableName) (limit : ℕ) (old new : CellState) (answer : Result ℕ Refusal) → RunsTurns t limit old answer new → SameBook old.part new.part
acted_books t limit old new (Ok number) runs = both_books old.part runs.last.part new.part (turns_book t runs.did old runs.last runs.taken) (ended runs.end.1)
  where
    ended : ((number ≡ limit) × (new ≡ runs.last)) ⊎ ((number < limit) × IsIdleTurn t runs.last new) → SameBook runs.last.part new.part
    ended (inl full) = one_part runs.last.part new.part (ap (λ (c : CellState). c.part) full.1)
    ended (inr idle) = turned_book t runs.last new _ idle.1.turn
acted_books t limit old new (Err why) runs = both_books old.part runs.last.part new.part (turns_book t runs.did old runs.last runs.taken) (turned_book t runs.last new (Err why) runs.end.1)

opened_by : (old new : CellState) (ends : End × End) → OpensWord old ends new → SameBook old.part new.part
opened_by old new ends how = record { node = ap (λ (x : Part). x.node) how.part; history = ap (λ (x : Part). x.history) how.part }

-- an open of a pair
pub opened_book : (t : TableName) (old new : CellState) (answer : Result (End × End) Refusal) → OpensPair t old new answer → SameBook old.part new.part
opened_book t old new answer (UnderWay ends e inside how) = opened_by old new ends how
opened_book t old new answer (Fresh c n ends e idle number reached how) = let by = opened_by (claimed_for_open t.size c n old) new ends how in record { node = by.node; history = by.history }
opened_book t old new answer (NoneLeft e idle seen) = one_part old.part new.part seen.part
opened_book t old new answer (NoSlot c e again idle fine few part seen none) = one_part old.part new.part part
opened_book t old new answer (Unready e part seen) = one_part old.part new.part part
opened_book t old new answer (Lost n found e idle fine few apart part seen) = one_part old.part new.part part

-- a proxy that asks again
pub retried_book : (t : TableName) (old new : CellState) (answer : Retry) → Retries t old answer new → SameBook old.part new.part
retried_book t old new answer (NobodyWaits e same first) = one_part old.part new.part (ap (λ (c : CellState). c.part) same)
retried_book t old new answer (InVain first e dry finds) = one_part old.part new.part finds.part
retried_book t old new answer (Anew first c e dry reached few part seen) = record { node = ap (λ (x : Part). x.node) part; history = ap (λ (x : Part). x.history) part }

changed_book : (t : TableName) (Did : CellState → CellState → Type 0) (p q : Part) → ((old new : CellState) → Did old new → SameBook old.part new.part) →
    Changes t Did p q → SameBook p q
changed_book t Did p q keeps change = let same = keeps change.old change.new change.did in record {
  node = ap (λ (x : Part). x.node) (sym change.after) ∙ (same.node ∙ ap (λ (x : Part). x.node) change.before);
  history = ap (λ (x : Part). x.history) (sym change.after) ∙ (same.history ∙ ap (λ (x : Part). x.history) change.before);
}

put_book : (profile : _) (at : End) (bytes : List ℕ) (ends : List End) (answer : Result ℕ Refusal) (p q : Part) → PutsAt profile at bytes ends answer p q → SameBook p q
put_book profile at bytes ends (Ok n) p q h = record { node = ap (λ (x : Part). x.node) h.2; history = ap (λ (x : Part). x.history) h.2 }
put_book profile at bytes ends (Err why) p q h = one_part p q h.1

given_book : (at : End) (Refuses : Refusal → Type 0) (answer : Result (ℕ × parcels.Parcel) Refusal) (p q : Part) → GivesAt at Refuses answer p q → SameBook p q
given_book at Refuses (Ok g) p q h = by_part p _ q h.2 (got_book at (got_at p.state at) p)
given_book at Refuses (Err why) p q h = one_part p q h.1

closed_book : (at : End) (answer : Result ℕ Refusal) (p q : Part) → ClosesAt at answer p q → SameBook p q
closed_book at (Ok n) p q h = record { node = ap (λ (x : Part). x.node) h.2; history = ap (λ (x : Part). x.history) h.2 }
closed_book at (Err why) p q h = one_part p q h.1

-- a call
pub same_book : (t : TableName) (call : Call) (p q : Part) → Does t call p q → SameBook p q
same_book t (calls.Entered state) p q does = absurd does
same_book t (calls.Opened answer) p q does = changed_book t _ p q (λ old new. opened_book t old new answer) does
same_book t (calls.Turned answer) p q does = changed_book t _ p q (λ old new. turned_book t old new answer) does
same_book t (calls.Acted limit answer) p q does = changed_book t _ p q (λ old new. acted_books t limit old new answer) does
same_book t (calls.Retried answer) p q does = changed_book t _ p q (λ old new. retried_book t old new answer) does
same_book t (calls.Put profile at bytes ends answer) p q does = put_book profile at bytes ends answer p q does
same_book t (calls.Got at answer) p q does = given_book at _ answer p q does
same_book t (calls.Taken at answer) p q does = given_book at _ answer p q does
same_book t (calls.Closed at answer) p q does = closed_book at answer p q does
