-- In the world at the start nobody has tried, and all are terminals.
use Rattle.std.specs.Prelude.{◌≡◌, ℕ, zero, suc, ◌+◌, Bool, true, false, nat_eq, if◌then◌else◌, Some, List, [], ◌∷◌, refl}
use Rattle.std.proofs.Common.{arith, subst}
use Rattle.std.proofs.lemmas.Bool.Decides.{nat_tests}
use Rattle.std.proofs.lemmas.Option.{same_Some}
use Rattle.std.specs.Ordering.{nat_cmp}
use Rattle.std.specs.Cmp.{nat_cmp_total}
use Rattle.std.specs.FinMap.{get-insert, get-empty}
use Rattle.ipcz_world.proofs.facts.Tests.{not_both}
use Rattle.ipcz_world.proofs.Vocabulary.{Side, A, B, place_at, Router, Node, router_in, bare_node, Key, node_at, router_at, Peripheral, add_end}
use Rattle.ipcz_world.proofs.Vocabulary.{new_end, new_world, numbers_from}
use Rattle.ipcz_node.specs.FirstPairs.{add_pairs, first_pairs, new_node}
use Rattle.ipcz_world.specs.World.{new_nodes}
use Rattle.ipcz_world.proofs.lawful.Going.{IsNew}
use Rattle.ipcz_world.proofs.lawful.Tracking.{terminal-bare}
use Rattle.ipcz_world.proofs.lawful.StepWakers.{IsOwing}

AreNew : Node → Type 0
AreNew n = (s : ℕ) (r : Router) → router_in n s ≡ Some r → IsNew r

new-bare : (i nodes : ℕ) → AreNew (bare_node i nodes)
unfolding AreNew
new-bare i nodes s r at = absurd (grind (arith, get-empty {X = Router} nat_cmp s, at))

new-ends : (n : Node) (pair : ℕ) (side : Side) (other : ℕ) → AreNew n → AreNew (add_end n pair side other)
unfolding AreNew
new-ends n pair side other law s r at = go (nat_eq s n.next_router) refl
  where
    y : Router
    y = new_end pair side other

    go : (c : Bool) → nat_eq s n.next_router ≡ c → IsNew r
    go true e = subst IsNew (same_Some y r (grind (arith, e, get-insert nat_cmp_total n.routers n.next_router y s, at, nat_tests)))
        (record { untried = refl; terminal = refl; unclosed = refl })
    go false e = law s r (grind (arith, e, get-insert nat_cmp_total n.routers n.next_router y s, at, nat_tests))

new-pairs : (n : Node) (pair : ℕ) (ps : List (ℕ × ℕ)) → AreNew n → AreNew (add_pairs n pair ps)
new-pairs n pair [] law = law
new-pairs n pair (p ∷ ps) law = new-pairs (if nat_eq p.0 n.number then add_end n pair A p.1 else if nat_eq p.1 n.number then add_end n
    pair B p.0 else n) (pair + 1) ps (go (nat_eq p.0 n.number) (nat_eq p.1 n.number))
  where
    go : (a b : Bool) → AreNew (if a then add_end n pair A p.1 else if b then add_end n pair B p.0 else n)
    go true b = new-ends n pair A p.1 law
    go false true = new-ends n pair B p.0 law
    go false false = law

new-places : (nodes n : ℕ) (is : List ℕ) → AreNew (place_at (bare_node 0 0) (new_nodes nodes is) n)
unfolding place_at new_node
new-places nodes n [] = new-bare 0 0
new-places nodes zero (i ∷ is) = new-pairs (bare_node i nodes) 0 (first_pairs nodes) (new-bare i nodes)
new-places nodes (suc n) (i ∷ is) = new-places nodes n is

pub owing-start : (nodes words : ℕ) → IsOwing (new_world nodes words)
unfolding node_at new_world router_at AreNew
owing-start nodes words = record {
  wakers = λ i k r s at tried on. absurd (not_both r.tried tried (news k r at).untried);
  ranked = record {
    rank = λ k. 0;
    limit = 1;
    below = λ k r at. omega arith;
    rises = λ j k q r n x at here inn out. absurd (terminal-bare q (Peripheral n x) A (news j q at).terminal inn);
  };
}
  where
    news : (k : Key) (r : Router) → router_in (node_at (new_world nodes words) k.node) k.serial ≡ Some r → IsNew r
    news k r at = new-places nodes k.node (numbers_from 0 nodes) k.serial r at
