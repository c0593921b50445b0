-- The world after a bypass has begun, against the one before.
use Rattle.ipcz_world.specs.Places.{in_node as in_node'}
use Rattle.std.specs.Prelude.{◌≡◌, ◌<◌, ℕ, ◌+◌, ◌*◌, Bool, true, false, cond, ◌&&◌, nat_eq, Some, [], ◌∷◌, ◌++◌, refl}
use Rattle.std.proofs.Common.{arith, sym, ◌∙◌, ap, append_assoc}
use Rattle.std.proofs.lemmas.Bool.Decides.{nat_tests}
use Rattle.ipcz_world.proofs.Vocabulary.{Message, Router, Node, outbox, World, Key, same_key, node_at, word_at, mail_at, way, router_at, flow}
use Rattle.ipcz_world.proofs.Vocabulary.{messages_in, set_router, Records, Weight, in_router, push_out}
use Rattle.std.specs.FinMap.{get}
use Rattle.ipcz_base.proofs.Indexed.{place_at-put_place}
use Rattle.ipcz_world.proofs.facts.Updates.{push_message}
use Rattle.ipcz_world.proofs.frames.Frames.{frames, node-set_node, word-set_node, mail-set_node, claimed-set_node, size-set_node}
use Rattle.ipcz_world.proofs.frames.Frames.{count-set_node, router-set_node, router-set_router}
use Rattle.ipcz_world.proofs.frames.OfRecords.{in_places, in_node, in_message}
use Rattle.ipcz_world.proofs.frames.Weights.{in_option, places-set_router}
use Rattle.ipcz_world.proofs.frames.OneRouter.{SameButRouter, SameButRouters, set-router}
use Rattle.ipcz_world.proofs.frames.Flowing.{IsPushed, same_way, under_way-pushed}
use Rattle.ipcz_world.proofs.frames.Changing.{IsNodeChanged}
use Rattle.ipcz_world.proofs.frames.Weighing.{in_places-is, in_nodes-changed}

-- two nodes that differ in routers and outboxes alone
pub record SameButMail (n m : Node) : Type 0 where
  pub node : m.number ≡ n.number
  pub nodes : m.count ≡ n.count
  pub pending : m.pending ≡ n.pending
  pub strays : m.strays ≡ n.strays
  pub held : m.held ≡ n.held
  pub hand : m.hand ≡ n.hand
  pub opening : m.opening ≡ n.opening
  pub next_router : m.next_router ≡ n.next_router
  pub next_peripheral : m.next_peripheral ≡ n.next_peripheral

-- a router has changed, and a message more is under way from its node
pub record Sends (w v : World) (k : Key) (y : Router) (to : ℕ) (m : Message) : Type 0 where
  pub routers : (q : Key) → router_at v q ≡ cond (same_key q k) (Some y) (router_at w q)
  pub nodes : (n : ℕ) → SameButMail (node_at w n) (node_at v n)
  pub words : (i : ℕ) → word_at v i ≡ word_at w i
  pub mail : (i : ℕ) → mail_at v i ≡ mail_at w i
  pub claimed : v.claimed ≡ w.claimed
  pub size : v.size ≡ w.size
  pub count : v.count ≡ w.count
  pub pushed : IsPushed w v k.node to m
  pub places : (f : Weight) (g : Records) → in_places f g v + in_option f (router_at w k) ≡ in_places f g w + in_router f y + in_message f g
      m

node-pushes : (f : Weight) (g : Records) (n : Node) (to : ℕ) (m : Message) → in_node f g (push_out n to m) ≡ in_node f g n
unfolding in_node'
node-pushes f g n to m = refl

places-push_message : (f : Weight) (g : Records) (w : World) (from to : ℕ) (m : Message) → IsPushed w (push_message w from to m) from to m →
    in_places f g (push_message w from to m) ≡ in_places f g w + in_message f g m
places-push_message f g w from to m p =
    omega (
      arith,
      in_places-is f g w,
      in_places-is f g v,
      in_nodes-changed f g w v from x changed p.sender,
      node-pushes f g (node_at w from) to m,
      under_way-pushed (λ from to m. in_message f g m) w v from to m p,
    )
  where
    x : Node
    x = push_out (node_at w from) to m

    v : World
    v = push_message w from to m

    changed : IsNodeChanged w v from x
    changed = record {
      node = λ j. node-set_node w from x j;
      word = λ i. word-set_node w from x i;
      claimed = claimed-set_node w from x;
      size = size-set_node w from x;
      count = count-set_node w from x;
    }

flow-pushed : (w : World) (from to a b : ℕ) (m : Message) → flow (push_message w from to m) a b ≡ cond (same_way a b from to)
    (flow w a b ++ m ∷ []) (flow w a b)
unfolding flow
flow-pushed w from to a b m = go (nat_eq a from) (nat_eq b to) refl refl
  where
    mail : messages_in (mail_at (push_message w from to m) (way (push_message w from to m) a b)) ≡ messages_in (mail_at w (way w a b))
    mail = ap messages_in (mail-set_node w from (push_out (node_at w from) to m) (way (push_message w from to m) a b) ∙ ap
        (λ c. mail_at w (a * c + b)) (count-set_node w from (push_out (node_at w from) to m)))

    box : (x : Node) → node_at (push_message w from to m) a ≡ x →
        messages_in (mail_at (push_message w from to m) (way (push_message w from to m) a b)) ++ outbox
        (node_at (push_message w from to m) a) b ≡ messages_in (mail_at w (way w a b)) ++ outbox x b
    box x e = ap (λ ms. ms ++ outbox (node_at (push_message w from to m) a) b) mail ∙ ap
        (λ n. messages_in (mail_at w (way w a b)) ++ outbox n b) e

    node : node_at (push_message w from to m) a ≡ cond (nat_eq a from) (push_out (node_at w from) to m) (node_at w a)
    node = node-set_node w from (push_out (node_at w from) to m) a

    go : (c d : Bool) → nat_eq a from ≡ c → nat_eq b to ≡ d →
        messages_in (mail_at (push_message w from to m) (way (push_message w from to m) a b)) ++ outbox
        (node_at (push_message w from to m) a) b
        ≡ cond (nat_eq a from && nat_eq b to) ((messages_in (mail_at w (way w a b)) ++ outbox (node_at w a) b) ++ m ∷ [])
        (messages_in (mail_at w (way w a b)) ++ outbox (node_at w a) b)
    go false d e f = box (node_at w a) (grind (arith, node, e)) ∙ grind (arith, e)
    go true false e f = let z : a ≡ from = grind (arith, e, nat_tests) in
        box (push_out (node_at w from) to m) (grind (arith, node, e)) ∙ grind
        (arith, e, f, z, place_at-put_place [] (node_at w from).outboxes to (outbox (node_at w from) to ++ m ∷ []) b)
    go true true e f = let z : a ≡ from = grind (arith, e, nat_tests) in let t : b ≡ to = grind (arith, f, nat_tests) in
        box (push_out (node_at w from) to m) (grind (arith, node, e))
        ∙ ap (λ ms. messages_in (mail_at w (way w a b)) ++ ms) (grind
        (arith, f, t, z, place_at-put_place [] (node_at w from).outboxes to (outbox (node_at w from) to ++ m ∷ []) b))
        ∙ sym (append_assoc (messages_in (mail_at w (way w a b))) (outbox (node_at w a) b) (m ∷ [])) ∙ grind (arith, e, f)

pub sends-push : (w : World) (k : Key) (y : Router) (to : ℕ) (m : Message) → k.node < w.count → to < w.count →
    Sends w (push_message (set_router w k y) k.node to m) k y to m
unfolding router_at
sends-push w k y to m sender receiver = record {
  routers = λ q. routers q;
  nodes = λ n. nodes n;
  words = λ i. grind (arith, frames);
  mail = λ i. grind (arith, frames);
  claimed = grind (arith, frames);
  size = grind (arith, frames);
  count = grind (arith, frames);
  pushed = record {
    count = grind (arith, frames);
    sender = sender;
    receiver = receiver;
    here = grind (arith, flow-pushed u k.node to k.node to m, nat_tests, one.flows k.node to);
    apart = λ a b l n e. grind (arith, flow-pushed u k.node to a b m, e, one.flows a b);
  };
  places = λ f g. omega (arith, places-push_message f g u k.node to m pushed_here, places-set_router f g w k y sender);
}
  where
    u : World
    u = set_router w k y

    one : SameButRouter w u k (Some y)
    one = set-router w k y

    pushed_here : IsPushed u (push_message u k.node to m) k.node to m
    pushed_here = record {
      count = grind (arith, frames);
      sender = grind (arith, frames, sender);
      receiver = grind (arith, frames, receiver);
      here = grind (arith, flow-pushed u k.node to k.node to m, nat_tests);
      apart = λ a b l n e. grind (arith, flow-pushed u k.node to a b m, e);
    }

    after : (n : ℕ) → node_at (push_message u k.node to m) n ≡ cond (nat_eq n k.node) (push_out (node_at u k.node) to m) (node_at u n)
    after n = node-set_node u k.node (push_out (node_at u k.node) to m) n

    same : (q : Key) (c : Bool) → nat_eq q.node k.node ≡ c → cond c (get (node_at u k.node).routers q.serial) (router_at u q) ≡ router_at u
        q
    same q true e = let z : q.node ≡ k.node = grind (arith, e, nat_tests) in ap (λ n. get (node_at u n).routers q.serial) (sym z)
    same q false e = refl

    routers : (q : Key) → router_at (push_message u k.node to m) q ≡ cond (same_key q k) (Some y) (router_at w q)
    routers q = router-set_node u k.node (push_out (node_at u k.node) to m) q ∙ same q (nat_eq q.node k.node) refl ∙ router-set_router w k y
        q

    nodes : (n : ℕ) → SameButMail (node_at w n) (node_at (push_message u k.node to m) n)
    nodes n = go (nat_eq n k.node) refl
      where
        same : SameButRouters (node_at w n) (node_at u n)
        same = one.nodes n

        go : (c : Bool) → nat_eq n k.node ≡ c → SameButMail (node_at w n) (node_at (push_message u k.node to m) n)
        go true e = let z : n ≡ k.node = grind (arith, e, nat_tests) in record {
          node = grind (arith, after n, e, z, same.node);
          nodes = grind (arith, after n, e, z, same.nodes);
          pending = grind (arith, after n, e, z, same.pending);
          strays = grind (arith, after n, e, z, same.strays);
          held = grind (arith, after n, e, z, same.held);
          hand = grind (arith, after n, e, z, same.hand);
          opening = grind (arith, after n, e, z, same.opening);
          next_router = grind (arith, after n, e, z, same.next_router);
          next_peripheral = grind (arith, after n, e, z, same.next_peripheral);
        }
        go false e = record {
          node = grind (arith, after n, e, same.node);
          nodes = grind (arith, after n, e, same.nodes);
          pending = grind (arith, after n, e, same.pending);
          strays = grind (arith, after n, e, same.strays);
          held = grind (arith, after n, e, same.held);
          hand = grind (arith, after n, e, same.hand);
          opening = grind (arith, after n, e, same.opening);
          next_router = grind (arith, after n, e, same.next_router);
          next_peripheral = grind (arith, after n, e, same.next_peripheral);
        }
