-- What code still finds behind its write of a node or of a router.
use Rattle.std.specs.Prelude.{◌≡◌, ◌<◌, ℕ, Bool, true, false, cond, nat_eq, Some, is_some, length, refl}
use Rattle.std.proofs.Common.{arith, ap, subst, sym, ◌∙◌}
use Rattle.std.specs.Ordering.{nat_cmp}
use Rattle.std.specs.FinMap.{FinMap, get, insert}
use Rattle.ipcz_world.proofs.Vocabulary.{Node, Router, World, bare_node, put_place, set_node, HasLengths}
use Rattle.ipcz_world.proofs.facts.Finding.{get_inserted}
use Rattle.ipcz_world.proofs.code.Slots.{length-put}

-- a write of a node leaves each node in its place, and code may have the world in another form
pub nodes-kept : {v w : World} → v ≡ w → (n m : ℕ) (x : Node) → HasLengths w → n < w.count → m < w.count →
    m < length (put_place (bare_node 0 0) v.nodes n x)
nodes-kept {w = w} view n m x has ln lm = subst (λ (u : World). m < length (put_place (bare_node 0 0) u.nodes n x)) (sym view)
    (omega (arith, lm, has.nodes, length-put (bare_node 0 0) w.nodes n x (omega (arith, ln, has.nodes))))

-- and so the world has all of them
pub lengths-kept : {v w : World} → v ≡ w → (n : ℕ) (x : Node) → HasLengths w → n < w.count → HasLengths (set_node v n x)
unfolding set_node
lengths-kept {w = w} view n x has ln = subst (λ u. HasLengths (set_node u n x)) (sym view) (record {
  nodes = omega (arith, has.nodes, length-put (bare_node 0 0) w.nodes n x (omega (arith, ln, has.nodes)));
  words = has.words;
  mail = has.mail;
  claimed = has.claimed;
  few = has.few;
})

-- a router is still there after the write of one
pub kept-there : (m : FinMap nat_cmp Router) (k q : ℕ) (v r : Router) → get m q ≡ Some r → is_some (get (insert m k v) q) ≡ true
kept-there m k q v r e = go (nat_eq q k) refl
  where
    go : (b : Bool) → nat_eq q k ≡ b → is_some (get (insert m k v) q) ≡ true
    go true f = ap is_some (get_inserted m k v q ∙ ap (λ c. cond c (Some v) (get m q)) f)
    go false f = ap is_some (get_inserted m k v q ∙ ap (λ c. cond c (Some v) (get m q)) f ∙ e)
