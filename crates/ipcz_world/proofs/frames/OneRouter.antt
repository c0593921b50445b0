-- Worlds that differ in one router, and in words, alone.
use Rattle.ipcz_world.specs.Places.{in_places as in_places'}
use Rattle.std.specs.Prelude.{Bool, true, false, ◌≡◌, ◌<◌, ℕ, ◌+◌, ◌*◌, cond, Option, Some, None, [], refl}
use Rattle.std.proofs.Common.{sym, ◌∙◌, arith, ap}
use Rattle.std.proofs.lemmas.Bool.Decides.{nat_tests}
use Rattle.ipcz_world.proofs.Vocabulary.{Router, Node, with_router, place_at, Word, set_word, set_claimed, World, Key, same_key, node_at, word_at}
use Rattle.ipcz_world.proofs.Vocabulary.{mail_at, way, router_at, set_node, set_router, flow, Records, Weight, under_way, without_router}
use Rattle.std.specs.Ordering.{nat_cmp}
use Rattle.std.specs.FinMap.{FinMap}
use Rattle.ipcz_world.proofs.facts.Updates.{remove_router}
use Rattle.ipcz_world.proofs.frames.Frames.{same_key-itself, frames, router-set_router, router-remove_router, word-set_node, mail-set_node, claimed-set_node}
use Rattle.ipcz_world.proofs.frames.Frames.{size-set_node, count-set_node}
use Rattle.ipcz_world.proofs.frames.OfRecords.{in_places}
use Rattle.ipcz_world.proofs.frames.Weights.{in_option, places-set_router, places-remove_router}

-- two nodes that differ in their routers alone
pub record SameButRouters (n m : Node) : Type 0 where
  pub node : m.number ≡ n.number
  pub nodes : m.count ≡ n.count
  pub outboxes : m.outboxes ≡ n.outboxes
  pub pending : m.pending ≡ n.pending
  pub strays : m.strays ≡ n.strays
  pub held : m.held ≡ n.held
  pub hand : m.hand ≡ n.hand
  pub opening : m.opening ≡ n.opening
  pub next_router : m.next_router ≡ n.next_router
  pub next_peripheral : m.next_peripheral ≡ n.next_peripheral

-- two worlds that differ in one router, in words and in the claim count alone
pub record SameButRouter (w v : World) (k : Key) (x : Option Router) : Type 0 where
  pub routers : (q : Key) → router_at v q ≡ cond (same_key q k) x (router_at w q)
  pub nodes : (n : ℕ) → SameButRouters (node_at w n) (node_at v n)
  pub mail : (i : ℕ) → mail_at v i ≡ mail_at w i
  pub size : v.size ≡ w.size
  pub count : v.count ≡ w.count
  pub flows : (from to : ℕ) → flow v from to ≡ flow w from to
  pub places : (f : Weight) (g : Records) → k.node < w.count → in_places f g v + in_option f (router_at w k) ≡ in_places f g w + in_option f
      x

-- the same words are claimed, and say the same
pub record SameWords (w v : World) : Type 0 where
  pub words : (i : ℕ) → word_at v i ≡ word_at w i
  pub claimed : v.claimed ≡ w.claimed

nodes_of : (w : World) (n j : ℕ) (x : Node) → SameButRouters (node_at w n) x → SameButRouters (node_at w j) (node_at (set_node w n x) j)
nodes_of w n j x s = record {
  node = grind (arith, frames, s.node, nat_tests);
  nodes = grind (arith, frames, s.nodes, nat_tests);
  outboxes = grind (arith, frames, s.outboxes, nat_tests);
  pending = grind (arith, frames, s.pending, nat_tests);
  strays = grind (arith, frames, s.strays, nat_tests);
  held = grind (arith, frames, s.held, nat_tests);
  hand = grind (arith, frames, s.hand, nat_tests);
  opening = grind (arith, frames, s.opening, nat_tests);
  next_router = grind (arith, frames, s.next_router, nat_tests);
  next_peripheral = grind (arith, frames, s.next_peripheral, nat_tests);
}

-- messages are under way in the same places
flows_of : (w v : World) → ((i : ℕ) → mail_at v i ≡ mail_at w i) → v.count ≡ w.count →
    ((n : ℕ) → SameButRouters (node_at w n) (node_at v n)) → (from to : ℕ) → flow v from to ≡ flow w from to
unfolding flow
flows_of w v mail count nodes from to = grind (
  arith,
  mail (way v from to),
  ap (λ c. from * c + to) count,
  ap (λ o. place_at [] o to) (nodes from).outboxes,
)

other_routers : (n : Node) (routers : FinMap nat_cmp Router) → SameButRouters n (record n { routers = routers })
other_routers n routers = record {
  node = refl;
  nodes = refl;
  outboxes = refl;
  pending = refl;
  strays = refl;
  held = refl;
  hand = refl;
  opening = refl;
  next_router = refl;
  next_peripheral = refl;
}

pub set-router : (w : World) (k : Key) (x : Router) → SameButRouter w (set_router w k x) k (Some x)
set-router w k x = record {
  routers = router-set_router w k x;
  nodes = nodes;
  mail = mail;
  size = size-set_node w _ _;
  count = count-set_node w _ _;
  flows = flows_of w (set_router w k x) mail (count-set_node w _ _) nodes;
  places = λ f g l. places-set_router f g w k x l;
}
  where
    nodes : (n : ℕ) → SameButRouters (node_at w n) (node_at (set_router w k x) n)
    nodes n = nodes_of w k.node n (with_router (node_at w k.node) k.serial x) (other_routers (node_at w k.node) _)

    mail : (i : ℕ) → mail_at (set_router w k x) i ≡ mail_at w i
    mail i = mail-set_node w _ _ i

pub remove-router : (w : World) (k : Key) (r : Router) → router_at w k ≡ Some r → SameButRouter w (remove_router w k) k None
remove-router w k r here = record {
  routers = router-remove_router w k;
  nodes = nodes;
  mail = mail;
  size = size-set_node w _ _;
  count = count-set_node w _ _;
  flows = flows_of w (remove_router w k) mail (count-set_node w _ _) nodes;
  places = λ f g l. omega (arith, ap (in_option f) here, places-remove_router f g w k r l here);
}
  where
    nodes : (n : ℕ) → SameButRouters (node_at w n) (node_at (remove_router w k) n)
    nodes n = nodes_of w k.node n (without_router (node_at w k.node) k.serial) (other_routers (node_at w k.node) _)

    mail : (i : ℕ) → mail_at (remove_router w k) i ≡ mail_at w i
    mail i = mail-set_node w _ _ i

pub words-set_router : (w : World) (k : Key) (x : Router) → SameWords w (set_router w k x)
words-set_router w k x = record { words = λ i. word-set_node w _ _ i; claimed = claimed-set_node w _ _ }

pub words-remove_router : (w : World) (k : Key) → SameWords w (remove_router w k)
words-remove_router w k = record { words = λ i. word-set_node w _ _ i; claimed = claimed-set_node w _ _ }

-- a word more that changes leaves all that
pub set-word : (w v : World) (k : Key) (x : Option Router) (i : ℕ) (word : Word) → SameButRouter w v k x →
    SameButRouter w (set_word v i word) k x
unfolding set_word router_at node_at mail_at flow under_way in_places'
set-word w v k x i word one = assumption one

pub set-claimed : (w v : World) (k : Key) (x : Option Router) (i : ℕ) → SameButRouter w v k x → SameButRouter w (set_claimed v i) k x
unfolding set_claimed router_at node_at mail_at flow under_way in_places'
set-claimed w v k x i one = record {
  routers = one.routers;
  nodes = one.nodes;
  mail = one.mail;
  size = one.size;
  count = one.count;
  flows =
      one.flows;
  places = one.places;
}

-- a router changes and then leaves
pub replaced : (w u v : World) (k : Key) (y : Router) → k.node < w.count → SameButRouter w u k (Some y) → SameButRouter w v k None →
    SameButRouter u v k None
replaced w u v k y on a c = record {
  routers = λ q. c.routers q ∙ go q (same_key q k) refl;
  nodes = λ n. let x = a.nodes n in let y = c.nodes n in record {
    node = y.node ∙ sym x.node;
    nodes = y.nodes ∙ sym x.nodes;
    outboxes = y.outboxes ∙ sym x.outboxes;
    pending = y.pending ∙ sym x.pending;
    strays = y.strays ∙ sym x.strays;
    held = y.held ∙ sym x.held;
    hand = y.hand ∙ sym x.hand;
    opening = y.opening ∙ sym x.opening;
    next_router = y.next_router ∙ sym x.next_router;
    next_peripheral = y.next_peripheral ∙ sym x.next_peripheral;
  };
  mail = λ i. c.mail i ∙ sym (a.mail i);
  size = c.size ∙ sym a.size;
  count = c.count ∙ sym a.count;
  flows = λ from to. c.flows from to ∙ sym (a.flows from to);
  places = λ f g l. omega (arith, c.places f g on, a.places f g on, ap (in_option f) stands);
}
  where
    go : (q : Key) (b : Bool) → same_key q k ≡ b → cond (same_key q k) None (router_at w q) ≡ cond (same_key q k) None (router_at u q)
    go q true e = rw e refl
    go q false e = rw e (sym (a.routers q ∙ ap (λ b. cond b (Some y) (router_at w q)) e))

    stands : router_at u k ≡ Some y
    stands = a.routers k ∙ ap (λ b. cond b (Some y) (router_at w k)) (same_key-itself k)
