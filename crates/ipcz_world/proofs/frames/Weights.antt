-- How the weight of all places moves when one node changes, and what it is at least.
use Rattle.ipcz_world.specs.Places.{in_node as in_node'}
use Rattle.std.specs.Prelude.{◌≡◌, ◌≤◌, ◌<◌, ℕ, ◌+◌, Option, Some, None, refl}
use Rattle.std.proofs.Common.{arith, ◌∙◌, sym}
use Rattle.std.proofs.lemmas.Bool.Decides.{nat_tests}
use Rattle.std.specs.Ordering.{nat_cmp}
use Rattle.std.specs.Cmp.{nat_cmp_total}
use Rattle.std.specs.FinMap.{nat_cmp-IsAntisymmetric, get}
use Rattle.ipcz_world.proofs.Vocabulary.{Message, Item, opposite_end, item_at, Router, Node, with_router, World, Key, node_at, router_at, set_node}
use Rattle.ipcz_world.proofs.Vocabulary.{set_router, flow, Records, IsUnderWay, Weight, in_router, without_router}
use Rattle.ipcz_base.proofs.Totals.{total-insert, total-insert_new, total-remove}
use Rattle.ipcz_world.proofs.facts.Updates.{remove_router}
use Rattle.ipcz_world.proofs.frames.Frames.{frames, node-set_node, word-set_node, claimed-set_node, size-set_node, count-set_node}
use Rattle.ipcz_world.proofs.frames.OfRecords.{in_message, in_node, in_places}
use Rattle.ipcz_world.proofs.facts.Queues.{total-at}
use Rattle.ipcz_world.proofs.frames.Changing.{IsNodeChanged, flow_is}
use Rattle.ipcz_world.proofs.frames.Flowing.{total_below-has, weighed}
use Rattle.ipcz_world.proofs.frames.Weighing.{in_places-is, in_nodes-changed, under_way-same}

-- the weight of a router, if there is one
abbrev pub in_option : Weight → Option Router → ℕ
in_option f None = 0
in_option f (Some r) = in_router f r

-- a node that sends nothing is another
pub places-set_node : (f : Weight) (g : Records) (w : World) (n : ℕ) (x : Node) → n < w.count → x.outboxes ≡ (node_at w n).outboxes →
    in_places f g (set_node w n x) + in_node f g (node_at w n) ≡ in_places f g w + in_node f g x
places-set_node f g w n x l boxes =
    omega (
      arith,
      in_places-is f g w,
      in_places-is f g v,
      in_nodes-changed f g w v n x changed l,
      under_way-same (λ from to m. in_message f g m) w v changed.count flows,
    )
  where
    v : World
    v = set_node w n x

    changed : IsNodeChanged w v n x
    changed = record {
      node = λ j. node-set_node w n x j;
      word = λ i. word-set_node w n x i;
      claimed = claimed-set_node w n x;
      size =
          size-set_node w n x;
      count = count-set_node w n x;
    }

    flows : (from to : ℕ) → flow v from to ≡ flow w from to
    flows from to = flow_is v from to ∙ grind (arith, frames, nat_tests, boxes) ∙ sym (flow_is w from to)

node-with : (f : Weight) (g : Records) (n : Node) (s : ℕ) (r : Router) →
    in_node f g (with_router n s r) + in_option f (get n.routers s) ≡ in_node f g n + in_router f r
unfolding in_node'
node-with f g n s r = go (get n.routers s) refl
  where
    go : (o : Option Router) → get n.routers s ≡ o → in_node f g (with_router n s r) + in_option f o ≡ in_node f g n + in_router f r
    go None e = omega (arith, total-insert_new nat_cmp nat_cmp_total nat_cmp-IsAntisymmetric (λ k x. in_router f x) n.routers s r e)
    go (Some q) e = omega (arith, total-insert nat_cmp nat_cmp_total nat_cmp-IsAntisymmetric (λ k x. in_router f x) n.routers s r q e)

node-without : (f : Weight) (g : Records) (n : Node) (s : ℕ) (q : Router) → get n.routers s ≡ Some q →
    in_node f g (without_router n s) + in_router f q ≡ in_node f g n
unfolding in_node'
node-without f g n s q e = omega (arith, total-remove nat_cmp nat_cmp_total nat_cmp-IsAntisymmetric (λ k x. in_router f x) n.routers s q e)

pub places-set_router : (f : Weight) (g : Records) (w : World) (k : Key) (r : Router) → k.node < w.count →
    in_places f g (set_router w k r) + in_option f (router_at w k) ≡ in_places f g w + in_router f r
unfolding router_at
places-set_router f g w k r l = omega (
  arith,
  places-set_node f g w k.node (with_router (node_at w k.node) k.serial r) l refl,
  node-with f g (node_at w k.node) k.serial r,
)

pub places-remove_router : (f : Weight) (g : Records) (w : World) (k : Key) (q : Router) → k.node < w.count → router_at w k ≡ Some q →
    in_places f g (remove_router w k) + in_router f q ≡ in_places f g w
unfolding router_at
places-remove_router f g w k q l e = omega (
  arith,
  places-set_node f g w k.node (without_router (node_at w k.node) k.serial) l refl,
  node-without f g (node_at w k.node) k.serial q e,
)

-- what stands in a router and what is under way are two places
routers_of : (f : Weight) (g : Records) (w : World) (k : Key) (r : Router) → router_at w k ≡ Some r →
    in_router f r ≤ in_node f g (node_at w k.node)
unfolding router_at in_node'
routers_of f g w k r e = omega (arith, total-at (λ s x. in_router f x) (node_at w k.node).routers k.serial r e)

pub in_two_places : (f : Weight) (g : Records) (w : World) (k : Key) (r : Router) (from to i : ℕ) (m : Message) → k.node < w.count →
    router_at w k ≡ Some r → IsUnderWay w from to i m →
    in_router f r + in_message f g m ≤ in_places f g w
in_two_places f g w k r from to i m l e u =
    omega (
      arith,
      in_places-is f g w,
      routers_of f g w k r e,
      total_below-has w.count k.node (λ n. in_node f g (node_at w n)) l,
      weighed (λ from to m. in_message f g m) w from to i m u,
    )

-- what a router's queues weigh at least
pub in_out_queue : (f : Weight) (r : Router) (n : ℕ) (item : Item) → item_at r.out_queue n ≡ Some item → f r.end n item ≤ in_router f r
unfolding in_router
in_out_queue f r n item e = omega (arith, total-at (f r.end) r.out_queue.items n item e)

pub in_in_queue : (f : Weight) (r : Router) (n : ℕ) (item : Item) → item_at r.in_queue n ≡ Some item →
    f (opposite_end r.end) n item ≤ in_router f r
unfolding in_router
in_in_queue f r n item e = omega (arith, total-at (f (opposite_end r.end)) r.in_queue.items n item e)
