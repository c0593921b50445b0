-- A call more that is written down: what was reached, and what its caller knows.
use Rattle.std.proofs.Common.{◌≡◌, ℕ, List, [], ◌∷◌, ◌++◌, refl, sym, subst, ap, ◌∙◌, append_assoc}
use Rattle.std.proofs.lemmas.List.{append-nil}
use Rattle.std.specs.Prelude.{None, Some, Result, Ok, Err, MatchResult, OnOk, OnErr, IfOk, IfErr, unwrap_or}
use Rattle.ipcz_base.specs.declared.end.End.{End}
use Rattle.ipcz_base.specs.declared.parcel.Parcel as parcels
use Rattle.ipcz_base.specs.declared.profile.Profile.{Profile}
use Rattle.ipcz_base.specs.declared.refusal.Refusal.{Refusal}
use Rattle.ipcz_base.specs.declared.refusal.Refusal.TheVariants as refusals
use Rattle.ipcz_node.specs.Calls.{put_refusal, put_number, get_refusal, got_at, close_refusal}
use Rattle.ipcz_rule.specs.declared.history.Call.{Call}
use Rattle.ipcz_rule.specs.declared.history.CallerView.{CallerView}
use Rattle.ipcz_rule.specs.declared.history.Entry.{Entry}
use Rattle.ipcz_rule.specs.declared.view.Part.{Part}
use Rattle.ipcz_rule.specs.Histories.{entry_of, noted}
use Rattle.ipcz_rule.specs.Steps.{put_part, close_part}
use Rattle.ipcz_cell.specs.Callers.{IsWritten}
use Rattle.ipcz_cell.specs.CellStates.{CellState}
use Rattle.ipcz_cell.specs.Parts.{got_part}
use Rattle.ipcz_cell.specs.TableNames.{TableName}
use Rattle.ipcz_fabric.specs.Places.{IsCellOf, IsRefusedInOrder}
use Rattle.ipcz_fabric.specs.Portals.{wants_list}
use Rattle.ipcz_fabric.specs.Replays.{Changes, PutsAt, GivesAt, ClosesAt, Does, Replays, IsReached, Extends, ExtendsInTurn, LeavesPart, entered}
use Rattle.ipcz_fabric.proofs.Books.{same_book}

-- a call more at the end
pub replays_more : (t : TableName) (es : List Entry) (p q r : Part) (e : Entry) → Replays t es p q → e.node ≡ q.node → Does t e.call q r → Replays t (es ++ e ∷ []) p (noted e r)
replays_more t [] p q r e is at does = (r, at ∙ ap (λ (x : Part). x.node) is, subst (λ (x : Part). Does t e.call x r) is does, refl)
replays_more t (d ∷ es) p q r e h at does = (h.0, h.1, h.2, replays_more t es (noted d h.0) q r e h.3 at does)

-- a part whose node has just come behind its lock
pub reached_first : (t : TableName) (p q : Part) (by : ℕ) → q ≡ entered by p → IsReached t q
reached_first t p q by is = record {
  first = p;
  by = by;
  made = [];
  replayed = is;
  told = ap (λ (x : Part). x.history) is ∙ sym (append-nil (entered by p).history);
}

-- and after a call more
pub reached_more : (t : TableName) (call : Call) (by : ℕ) (p q r : Part) → IsReached t p → Does t call p q → r ≡ noted (entry_of q.node by call) q → IsReached t r
reached_more t call by p q r h does is =
    let same = same_book t call p q does in
    let e = entry_of q.node by call in record {
      first = h.first;
      by = h.by;
      made = h.made ++ e ∷ [];
      replayed = subst (λ (x : Part). Replays t (h.made ++ e ∷ []) (entered h.by h.first) x) (sym is)
          (replays_more t h.made (entered h.by h.first) p q e h.replayed same.node does);
      told = ap (λ (x : Part). x.history) is ∙ (ap (λ (l : List Entry). l ++ e ∷ []) (same.history ∙ h.told) ∙ append_assoc (entered h.by h.first).history h.made (e ∷ []));
    }

-- its caller has made it
pub extends_by : (t : TableName) (call : Call) (p q r : Part) (c c' : CallerView) → IsReached t p → Does t call p q → r ≡ noted (entry_of q.node c.id call) q →
    IsWritten (entry_of q.node c.id call) r.history c c' → Extends t p.node call c c'
extends_by t call p q r c c' h does is written =
    let same = same_book t call p q does in
    subst (λ (n : ℕ). Extends t n call c c') same.node (record {
      between = written.between;
      after = written.after;
      own = written.own;
      last = r;
      node_is = ap (λ (x : Part). x.node) is;
      history = written.history_is;
      reached = reached_more t call c.id p q r h does is;
    })

-- one call, and calls behind others
pub one_call : (t : TableName) (node : ℕ) (call : Call) (c d : CallerView) → Extends t node call c d → ExtendsInTurn t ((node, call) ∷ []) c d
one_call t node call c d h = (d, h, refl)

pub in_turn_both : (t : TableName) (made more : List (ℕ × Call)) (c d e : CallerView) → ExtendsInTurn t made c d → ExtendsInTurn t more d e → ExtendsInTurn t (made ++ more) c e
in_turn_both t [] more c d e is then = subst (λ (x : CallerView). ExtendsInTurn t more x e) is then
in_turn_both t (first ∷ made) more c d e h then = (h.0, h.1, in_turn_both t made more h.0 d e h.2 then)

-- what a cell has done
pub changes : (t : TableName) (Did : CellState → CellState → Type 0) (o old new : CellState) → o ≡ old → IsCellOf t old.part.node old → Did o new → Changes t Did o.part new.part
changes t Did o old new is here did = record {
  old = o;
  new = new;
  here = subst (λ (x : CellState). IsCellOf t x.part.node x) (sym is) here;
  before = refl;
  after = refl;
  did = did;
}

-- a call at a desk
pub calls_at : (t : TableName) (call : Call) (o old done new : CellState) (c c' : CallerView) → o ≡ old → IsReached t o.part → Does t call o.part done.part →
    new.part ≡ noted (entry_of done.part.node c.id call) done.part → IsWritten (entry_of done.part.node c.id call) new.part.history c c' → Extends t old.part.node call c c'
calls_at t call o old done new c c' is reached does noted written = subst (λ (x : CellState). Extends t x.part.node call c c') is
    (extends_by t call o.part done.part new.part c c' reached does noted written)

-- what a put has done, by what it was answered
pub puts_by : {E : Type 0} (why : E → Refusal) (profile : Profile) (at : End) (bytes : List ℕ) (ends : List End) (p q : Part) (r : Result ℕ E) (told : Result ℕ Refusal) →
    MatchResult r (λ n. told ≡ Ok n) (λ e. told ≡ Err (why e)) → OnOk r (put_refusal profile p.state at bytes ends ≡ None) → IfOk r (λ n. n ≡ put_number p.state at) →
    OnOk r (q ≡ put_part at bytes ends p) → IfErr r (λ e. IsRefusedInOrder (wants_list ends) (put_refusal profile p.state at bytes ends) (why e)) → OnErr r (q ≡ p) →
    PutsAt profile at bytes ends told p q
puts_by why profile at bytes ends p q (Ok n) told is allowed number ok refused err = subst (λ (a : Result ℕ Refusal). PutsAt profile at bytes ends a p q) (sym is) (allowed, number, ok)
puts_by why profile at bytes ends p q (Err e) told is allowed number ok refused err = subst (λ (a : Result ℕ Refusal). PutsAt profile at bytes ends a p q) (sym is) (refused, err)

-- and a get
pub gives_by : (at : End) (Refuses : Refusal → Type 0) (p q : Part) (r : Result (ℕ × parcels.Parcel) Refusal) → OnOk r (get_refusal p.state at ≡ None) →
    IfOk r (λ g. got_at p.state at ≡ Some g) → OnOk r (q ≡ got_part at p) → IfErr r Refuses → OnErr r (q ≡ p) → GivesAt at Refuses r p q
gives_by at Refuses p q (Ok g) allowed there ok why err = (allowed, there, ok)
gives_by at Refuses p q (Err e) allowed there ok why err = (why, err)

-- and a close
pub closes_by : (at : End) (p q : Part) (r : Result ℕ Refusal) → OnOk r (close_refusal p.state at ≡ None) → IfOk r (λ n. n ≡ put_number p.state at) →
    OnOk r (q ≡ close_part at p) → IfErr r (λ e. e ≡ unwrap_or (close_refusal p.state at) refusals.OutOfMemory) → OnErr r (q ≡ p) → ClosesAt at r p q
closes_by at p q (Ok n) allowed number ok why err = (allowed, number, ok)
closes_by at p q (Err e) allowed number ok why err = (why, err)

-- what was left by a call that was then written down
pub left_part : (by : ℕ) (call : Call) (Then : Part → Part) (o old done new : CellState) → o ≡ old → done.part ≡ Then o.part → done.seen ≡ o.seen →
    new.part ≡ noted (entry_of done.part.node by call) done.part → new.seen ≡ done.seen → LeavesPart by call (Then old.part) old new
left_part by call Then o old done new is did seen told again = subst (λ (x : CellState). LeavesPart by call (Then x.part) x new) is
    (told ∙ ap (λ (p : Part). noted (entry_of p.node by call) p) did, again ∙ seen)

-- by one that changes nothing if it is refused
pub left_by : {A E : Type 0} (by : ℕ) (call : Call) (Then : Part → Part) (r : Result A E) (o old done new : CellState) → o ≡ old →
    OnOk r (done.part ≡ Then o.part) → OnErr r (done.part ≡ o.part) → done.seen ≡ o.seen →
    new.part ≡ noted (entry_of done.part.node by call) done.part → new.seen ≡ done.seen →
    MatchResult r (λ a. LeavesPart by call (Then old.part) old new) (λ e. LeavesPart by call old.part old new)
left_by by call Then (Ok a) o old done new is ok err seen told again = left_part by call Then o old done new is ok seen told again
left_by by call Then (Err e) o old done new is ok err seen told again = left_part by call (λ p. p) o old done new is err seen told again

-- and by one whose answer was told
pub left_told : {E : Type 0} (why : E → Refusal) (by : ℕ) (puts : Result ℕ Refusal → Call) (Then : Part → Part) (r : Result ℕ E) (answer : Result ℕ Refusal)
    (old done new : CellState) → MatchResult r (λ n. answer ≡ Ok n) (λ e. answer ≡ Err (why e)) → OnOk r (done.part ≡ Then old.part) → OnErr r (done.part ≡ old.part) →
    done.seen ≡ old.seen → new.part ≡ noted (entry_of done.part.node by (puts answer)) done.part → new.seen ≡ done.seen →
    MatchResult r (λ n. LeavesPart by (puts (Ok n)) (Then old.part) old new) (λ e. LeavesPart by (puts (Err (why e))) old.part old new)
left_told why by puts Then (Ok n) answer old done new is ok err seen told again =
    subst (λ (a : Result ℕ Refusal). LeavesPart by (puts a) (Then old.part) old new) is (left_part by (puts answer) Then old old done new refl ok seen told again)
left_told why by puts Then (Err e) answer old done new is ok err seen told again =
    subst (λ (a : Result ℕ Refusal). LeavesPart by (puts a) old.part old new) is (left_part by (puts answer) (λ p. p) old old done new refl err seen told again)

-- and of a cell as it was seen
pub left_seen : {E : Type 0} (why : E → Refusal) (by : ℕ) (puts : Result ℕ Refusal → Call) (Then : Part → Part) (r : Result ℕ E) (o old new : CellState) → o ≡ old →
    MatchResult r (λ n. LeavesPart by (puts (Ok n)) (Then o.part) o new) (λ e. LeavesPart by (puts (Err (why e))) o.part o new) →
    MatchResult r (λ n. LeavesPart by (puts (Ok n)) (Then old.part) old new) (λ e. LeavesPart by (puts (Err (why e))) old.part old new)
left_seen why by puts Then r o old new is left = subst
    (λ (x : CellState). MatchResult r (λ n. LeavesPart by (puts (Ok n)) (Then x.part) x new) (λ e. LeavesPart by (puts (Err (why e))) x.part x new)) is left

-- a caller stays who it is
pub same_id : (t : TableName) (node : ℕ) (call : Call) (c c' : CallerView) → Extends t node call c c' → c'.id ≡ c.id
same_id t node call c c' h = ap (λ (x : CallerView). x.id) h.after

-- what holds of the answer that was told
pub by_told : {E : Type 0} (why : E → Refusal) (Holds : Result ℕ Refusal → Type 0) (r : Result ℕ E) (told : Result ℕ Refusal) →
    MatchResult r (λ n. told ≡ Ok n) (λ e. told ≡ Err (why e)) → Holds told → MatchResult r (λ n. Holds (Ok n)) (λ e. Holds (Err (why e)))
by_told why Holds (Ok n) told is h = subst Holds is h
by_told why Holds (Err e) told is h = subst Holds is h

-- to write down a call leaves the node
pub noted_node : (e : Entry) (p q : Part) → q ≡ noted e p → q.node ≡ p.node
noted_node e p q is = ap (λ (x : Part). x.node) is

pub here_is : (o old : CellState) → o ≡ old → o.part.node ≡ old.part.node
here_is o old is = ap (λ (x : CellState). x.part.node) is
