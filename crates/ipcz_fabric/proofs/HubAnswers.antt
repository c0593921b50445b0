-- What the calls of a hub answer, if the calls of its cells answer so.
use Rattle.std.specs.Prelude.{◌≡◌, ◌<◌, ℕ, Bool, true, false, if◌then◌else◌, Option, Some, None, Result, Ok, Err, IfOk, IfErr, unwrap_or}
use Rattle.std.proofs.Common.{arith, ap, sym, subst, ◌∙◌, inl, inr}
use Rattle.ipcz_base.specs.declared.end.End.{End}
use Rattle.ipcz_base.specs.declared.refusal.Refusal.{Refusal}
use Rattle.ipcz_base.specs.declared.refusal.Refusal.TheVariants as refusals
use Rattle.ipcz_base.specs.Limits.{has_serials}
use Rattle.ipcz_cell.specs.CellStates.{CellState}
use Rattle.ipcz_cell.specs.TableNames.{TableName}
use Rattle.ipcz_fabric.specs.Hubs.{ArePair, IsOpenRefusal, LeavesOpened, OpensPortals, opened_portals}
use Rattle.ipcz_cell.specs.Opens.{OpensPair, OpensWord, UnderWay, Fresh, NoneLeft, NoSlot, Unready, Lost}
use Rattle.ipcz_fabric.specs.Portals.{PortalValue, portal_at}

abbrev ends_in : End × End → Result (End × End) Refusal → End × End
ends_in other (Ok ends) = ends
ends_in other (Err why) = other

abbrev refusal_in : Refusal → Result (End × End) Refusal → Refusal
refusal_in other (Ok ends) = other
refusal_in other (Err why) = why

abbrev word_in : Option ℕ → ℕ
word_in None = 0
word_in (Some word) = word

serials_why : (left : Bool) (why : Refusal) → why ≡ unwrap_or (if left then None else Some refusals.NumbersEnd) refusals.OutOfMemory → IsOpenRefusal why
serials_why true why e = inr (inr (inl e))
serials_why false why e = inr (inl e)

-- the open of a pair at a cell is refused for one of these
open_why : (t : TableName) (old new : CellState) (why : Refusal) → OpensPair t old new (Err why) → IsOpenRefusal why
open_why t old new why (UnderWay ends e inside how) = cc
open_why t old new why (Fresh c n ends e idle number reached how) = cc
open_why t old new why (NoneLeft e idle seen) = inl (ap (refusal_in why) e)
open_why t old new why (NoSlot c e again idle fine few part seen none) = inl (ap (refusal_in why) e)
open_why t old new why (Unready e part seen) = serials_why (has_serials old.part.state.next_router 2) why (ap (refusal_in why) e)
open_why t old new why (Lost n found e idle fine few apart part seen) = inr (inr (inr (ap (refusal_in why) e)))

pair_on : (size node : ℕ) (old new : CellState) (a b : End) (ends : End × End) → (a, b) ≡ ends → OpensWord old ends new → ends.0.pair < size →
    ArePair size node (portal_at node a, portal_at node b)
pair_on size node old new a b ends same how inside = record {
  pair = how.word;
  inside = let is : ends.0.pair ≡ how.word = ap (λ (e : End × End). e.0.pair) how.ends_are in omega (arith, is, inside);
  are = ap (λ (e : End × End). (portal_at node e.0, portal_at node e.1)) (same ∙ how.ends_are);
}

ends_pair : (t : TableName) (node : ℕ) (old new : CellState) (a b : End) → OpensPair t old new (Ok (a, b)) → ArePair t.size node (portal_at node a, portal_at node b)
ends_pair t node old new a b (UnderWay ends e inside how) = pair_on t.size node old new a b ends (ap (ends_in (a, b)) e) how inside
ends_pair t node old new a b (Fresh c n ends e idle number reached how) =
    let word : n ≡ how.word = ap word_in how.under_way in
    let is : ends.0.pair ≡ how.word = ap (λ (x : End × End). x.0.pair) how.ends_are in
    let few = number.below in
    pair_on t.size node _ new a b ends (ap (ends_in (a, b)) e) how (omega (arith, word, is, few))
ends_pair t node old new a b (NoneLeft e idle seen) = cc
ends_pair t node old new a b (NoSlot c e again idle fine few part seen none) = cc
ends_pair t node old new a b (Unready e part seen) = cc
ends_pair t node old new a b (Lost n found e idle fine few apart part seen) = cc

portals_in : PortalValue × PortalValue → Result (PortalValue × PortalValue) Refusal → PortalValue × PortalValue
portals_in other (Ok portals) = portals
portals_in other (Err why) = other

portals_why : Refusal → Result (PortalValue × PortalValue) Refusal → Refusal
portals_why other (Ok portals) = other
portals_why other (Err why) = why

refused_by : (t : TableName) (node : ℕ) (old new : CellState) (why : Refusal) (ends : Result (End × End) Refusal) → OpensPair t old new ends →
    Err why ≡ opened_portals node ends → IsOpenRefusal why
unfolding portals_why
refused_by t node old new why (Ok ends) opens is = cc
refused_by t node old new why (Err other) opens is = subst IsOpenRefusal (sym (ap (portals_why why) is)) (open_why t old new other opens)

-- the open of portals that was written down
pub portals_opened : (t : TableName) (node by : ℕ) (old : CellState) (answer : Result (PortalValue × PortalValue) Refusal) (new : CellState) →
    LeavesOpened t node by old answer new → (done : CellState) × OpensPortals t node old answer done
portals_opened t node by old answer new h = (h.2.0, (h.0, h.2.1, h.1))

-- an open of portals is refused for one of these
pub portals_refused : (t : TableName) (node : ℕ) (old new : CellState) (answer : Result (PortalValue × PortalValue) Refusal) →
    OpensPortals t node old answer new → IfErr answer IsOpenRefusal
portals_refused t node old new (Ok portals) opens = tt
portals_refused t node old new (Err why) opens = refused_by t node old new why opens.0 opens.1 opens.2

pair_by : (t : TableName) (node : ℕ) (old new : CellState) (portals : PortalValue × PortalValue) (ends : Result (End × End) Refusal) →
    OpensPair t old new ends → Ok portals ≡ opened_portals node ends → ArePair t.size node portals
unfolding portals_in
pair_by t node old new portals (Ok ends) opens is = subst (ArePair t.size node) (sym (ap (portals_in portals) is)) (ends_pair t node old new ends.0 ends.1 opens)
pair_by t node old new portals (Err other) opens is = cc

-- the portals that a cell opens are those of a pair, of both sides
pub portals_pair : (t : TableName) (node : ℕ) (old new : CellState) (answer : Result (PortalValue × PortalValue) Refusal) →
    OpensPortals t node old answer new → IfOk answer (ArePair t.size node)
portals_pair t node old new (Ok portals) opens = pair_by t node old new portals opens.0 opens.1 opens.2
portals_pair t node old new (Err why) opens = tt

-- and of its node
pub portals_node : (size node : ℕ) (answer : Result (PortalValue × PortalValue) Refusal) → IfOk answer (ArePair size node) →
    IfOk answer (λ (p : PortalValue × PortalValue). (p.0.node ≡ node) × (p.1.node ≡ node))
portals_node size node (Ok portals) pair = (ap (λ (p : PortalValue × PortalValue). p.0.node) pair.are, ap (λ (p : PortalValue × PortalValue). p.1.node) pair.are)
portals_node size node (Err why) pair = tt
