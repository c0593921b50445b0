-- What the items in all places weigh, after each update, and that no item is in two places.
use Rattle.ipcz_world.proofs.Vocabulary.{Weight, in_router, at_end, Side, LinkId, Descriptor, Item, Message, opposite_end, total, total_below}
use Rattle.ipcz_world.proofs.Vocabulary.{total_list, Queue, item_at, Router, Node, with_router, World, Key, node_at, router_at, flow, set_router}
use Rattle.ipcz_world.proofs.Vocabulary.{Books, read, Records, IsUnderWay, under_way, Conserved, from_number}
use Rattle.ipcz_world.specs.Places.{in_message as in_message', in_node as in_node', in_places as in_places'}
use Rattle.std.specs.Prelude.{◌≡◌, ◌≤◌, ◌<◌, ◌+◌, ℕ, Bool, true, false, cond, nat_eq, Some, None, refl, List, [], ◌∷◌, drop, slice_get}
use Rattle.std.specs.Ordering.{nat_cmp}
use Rattle.std.specs.Cmp.{nat_cmp_total}
use Rattle.std.specs.FinMap.{get, insert, remove, nat_cmp-IsAntisymmetric}
use Rattle.std.proofs.Common.{arith, ap, subst, ◌∙◌, sym}
use Rattle.std.proofs.lemmas.Bool.Decides.{nat_tests}
use Rattle.ipcz_base.specs.declared.message.Message.TheVariants as messages
use Rattle.ipcz_base.proofs.Totals.{total-insert, total-insert_new, total-remove}
use Rattle.ipcz_seq.specs.Queue.{push_at, pop_front}
use Rattle.ipcz_world.proofs.frames.Frames.{frames, node-set_node, word-set_node, claimed-set_node, size-set_node, count-set_node}
use Rattle.ipcz_world.proofs.frames.OfRecords.{source, in_message, in_node, in_places}
use Rattle.ipcz_world.proofs.frames.Changing.{IsNodeChanged, flow_is}
use Rattle.ipcz_world.proofs.frames.Flowing.{total_below-swap, weighed}
use Rattle.ipcz_world.proofs.frames.Totalling.{total_below-same}
use Rattle.ipcz_world.proofs.facts.LinkTests.{same_end-itself}

flow-set_router : (w : World) (k : Key) (y : Router) (from to : ℕ) → flow (set_router w k y) from to ≡ flow w from to
flow-set_router w k y from to = flow_is (set_router w k y) from to ∙ grind (arith, frames, nat_tests) ∙ sym (flow_is w from to)

pub still_under_way : (w : World) (k : Key) (y : Router) (from to i : ℕ) (m : Message) → IsUnderWay w from to i m →
    IsUnderWay (set_router w k y) from to i m
still_under_way w k y from to i m u = record {
  sender = grind (arith, frames, u.sender);
  receiver = grind (arith, frames, u.receiver);
  place = ap (λ ms. slice_get ms i) (flow-set_router w k y from to) ∙ u.place;
}

-- the same messages weigh the same
pub under_way-same : (h : ℕ → ℕ → Message → ℕ) (w v : World) → v.count ≡ w.count → ((from to : ℕ) → flow v from to ≡ flow w from to) →
    under_way h v ≡ under_way h w
unfolding under_way
under_way-same h w v count same =
    ap (λ c. total_below c (λ from. total_below c (λ to. total_list (h from to) (flow v from to)))) count ∙
    total_below-same w.count (λ from. total_below w.count (λ to. total_list (h from to) (flow v from to)))
    (λ from. total_below w.count (λ to. total_list (h from to) (flow w from to)))
    (λ from l. total_below-same w.count (λ to. total_list (h from to) (flow v from to)) (λ to. total_list (h from to) (flow w from to))
    (λ to m. ap (total_list (h from to)) (same from to)))

module _ (f : Weight) (g : Records) where
  pub in_places-is : (w : World) → in_places f g w ≡ total_below w.count (λ n. in_node f g (node_at w n)) + under_way
      (λ from to m. in_message f g m) w
  unfolding in_places'
  in_places-is w = refl

  -- one node is another
  pub in_nodes-changed : (w v : World) (n : ℕ) (x : Node) → IsNodeChanged w v n x → n < w.count →
      total_below v.count (λ j. in_node f g (node_at v j)) + in_node f g (node_at w n) ≡ total_below w.count
      (λ j. in_node f g (node_at w j)) + in_node f g x
  in_nodes-changed w v n x c l =
      let swap = total_below-swap w.count n (λ j. in_node f g (node_at v j)) (λ j. in_node f g (node_at w j)) l
      (λ j less ne. ap (in_node f g) (grind (arith, c.node j, ne, nat_tests))) in
      omega (arith, ap (λ z. total_below z (λ j. in_node f g (node_at v j))) c.count, swap, ap (in_node f g) (here_of (c.node n)))
    where
      here_of : node_at v n ≡ cond (nat_eq n n) x (node_at w n) → node_at v n ≡ x
      here_of h = grind (arith, h, nat_tests)

  -- a node with another router
  pub in_node-changed : (n x : Node) (s : ℕ) (r y : Router) → get n.routers s ≡ Some r → x.routers ≡ insert n.routers s y →
      x.strays ≡ n.strays → in_node f g x + in_router f r ≡ in_node f g n + in_router f y
  unfolding in_node'
  in_node-changed n x s r y here routers strays =
      omega (
        arith,
        total-insert nat_cmp nat_cmp_total nat_cmp-IsAntisymmetric (λ serial r. in_router f r) n.routers s y r here,
        ap (total (λ serial r. in_router f r)) routers,
        ap (total_list (in_message f g)) strays,
      )

  -- the router of a key is another
  pub in_places-set_router : (w : World) (k : Key) (r y : Router) → k.node < w.count → router_at w k ≡ Some r →
      in_places f g (set_router w k y) + in_router f r ≡ in_places f g w + in_router f y
  unfolding router_at
  in_places-set_router w k r y l here =
      let v = set_router w k y in let x = with_router (node_at w k.node) k.serial y in
      let c : IsNodeChanged w v k.node x = record {
        node = λ j. node-set_node w k.node x j;
        word = λ i. word-set_node w k.node x i;
        claimed = claimed-set_node w k.node x;
        size = size-set_node w k.node x;
        count = count-set_node w k.node x;
      } in
      omega (
        arith,
        in_places-is w,
        in_places-is v,
        in_nodes-changed w v k.node x c l,
        in_node-changed (node_at w k.node) x k.serial r y here refl refl,
        under_way-same (λ from to m. in_message f g m) w v c.count (λ from to. flow-set_router w k y from to),
      )

  -- what is under way is weighed
  pub in_places-has : (w : World) (from to i : ℕ) (m : Message) → IsUnderWay w from to i m → in_message f g m ≤ in_places f g w
  in_places-has w from to i m u = omega (arith, in_places-is w, weighed (λ from to m. in_message f g m) w from to i m u)

pub in_popped : (h : ℕ → Item → ℕ) (q : Queue Item) (item : Item) → item_at q q.current ≡ Some item →
    total h (pop_front q).items + h q.current item ≡ total h q.items
in_popped h q item e = total-remove nat_cmp nat_cmp_total nat_cmp-IsAntisymmetric h q.items q.current item e

pub in_pushed : (h : ℕ → Item → ℕ) (q : Queue Item) (n : ℕ) (item : Item) → item_at q n ≡ None →
    total h (push_at q n item).items ≡ total h q.items + h n item
in_pushed h q n item e = total-insert_new nat_cmp nat_cmp_total nat_cmp-IsAntisymmetric h q.items n item e

pub in_router-is : (f : Weight) (r : Router) → in_router f r ≡ total (f r.end) r.out_queue.items + total (f (opposite_end r.end))
    r.in_queue.items
unfolding in_router
in_router-is f r = refl

-- counts the items of one number
abbrev pub of_number : ℕ → ℕ → Item → ℕ
of_number n m item = cond (nat_eq m n) 1 0

from_number-none : (n i : ℕ) (xs : List Item) → n < i → from_number (of_number n) i xs ≡ 0
from_number-none n i [] l = refl
from_number-none n i (x ∷ xs) l = grind (arith, nat_tests, from_number-none n (i + 1) xs (omega (arith, l)))

pub from_number-once : (n i : ℕ) (xs : List Item) → from_number (of_number n) i xs ≤ 1
from_number-once n i [] = omega arith
from_number-once n i (x ∷ xs) = go (nat_eq i n) refl (from_number-once n (i + 1) xs)
  where
    go : (b : Bool) → nat_eq i n ≡ b → from_number (of_number n) (i + 1) xs ≤ 1 → (cond b 1 0 + from_number (of_number n) (i + 1) xs) ≤ 1
    go true e le = omega (arith, from_number-none n (i + 1) xs (grind (arith, e, nat_tests)))
    go false e le = omega (arith, le)

pub in_message-item : (f : Weight) (g : Records) (link : LinkId) (s : Side) (n : ℕ) (item : Item) (moves : List Descriptor) →
    in_message f g (messages.Item link s n item moves) ≡ f (source g link s) n item
unfolding in_message'
in_message-item f g link s n item moves = refl

-- an item under way is in no queue of its end
pub nowhere_else : (w : World) (b : Books) (g : Records) (k : Key) (r y : Router) (from to i : ℕ) (link : LinkId) (s : Side) (n : ℕ)
    (item : Item) (moves : List Descriptor) →
    Conserved w b g → k.node < w.count → router_at w k ≡ Some r → IsUnderWay w from to i (messages.Item link s n item moves) →
    ((f : Weight) → ((x : Item) → f (source g link s) n x ≡ 1) → in_router f y + 1 ≤ in_router f r) → ⊥
nowhere_else w b g k r y from to i link s n item moves law l here u less =
    let e = source g link s in let f : Weight = at_end e (of_number n) in
    let one : (x : Item) → f e n x ≡ 1 = λ x. grind (arith, same_end-itself e, nat_tests) in
    let has : in_message f g (messages.Item link s n item moves) ≤ in_places f g (set_router w k y) =
    in_places-has f g (set_router w k y) from to i (messages.Item link s n item moves)
    (record {
      sender = grind (arith, frames, u.sender);
      receiver = grind (arith, frames, u.receiver);
      place =
          ap (λ ms. slice_get ms i) (flow-set_router w k y from to) ∙ u.place;
    }) in
    omega (
      arith,
      has,
      in_message-item f g link s n item moves,
      one item,
      less f one,
      in_places-set_router f g w k r y l here,
      law.exact e (of_number n),
      from_number-once n (read b (opposite_end e)) (drop (read b (opposite_end e)) (b.put e)),
    )

-- so it isn't in the out queue of a router of its end, nor in the in queue of one of the other end
pub not_in_out : (w : World) (b : Books) (g : Records) (k : Key) (r : Router) (from to i : ℕ) (link : LinkId) (s : Side) (n : ℕ)
    (item x : Item) (moves : List Descriptor) →
    Conserved w b g → k.node < w.count → router_at w k ≡ Some r → IsUnderWay w from to i (messages.Item link s n item moves) →
    r.end ≡ source g link s → item_at r.out_queue n ≡ Some x → ⊥
not_in_out w b g k r from to i link s n item x moves law l here u end is =
    nowhere_else w b g k r (record r { out_queue = record r.out_queue { items = remove r.out_queue.items n } }) from to i link s n item
    moves law l here u (λ f one. less f (subst (λ e. f e n x ≡ 1) (sym end) (one x)))
  where
    less : (f : Weight) → f r.end n x ≡ 1 → in_router f (record r { out_queue = record r.out_queue { items = remove r.out_queue.items n } })
        + 1 ≤ in_router f r
    less f one = omega (
      arith,
      in_router-is f r,
      in_router-is f (record r
          { out_queue = record r.out_queue { items = remove r.out_queue.items n } }),
      total-remove nat_cmp nat_cmp_total nat_cmp-IsAntisymmetric (f r.end) r.out_queue.items n x is,
      one,
    )

pub not_in_in : (w : World) (b : Books) (g : Records) (k : Key) (r : Router) (from to i : ℕ) (link : LinkId) (s : Side) (n : ℕ)
    (item x : Item) (moves : List Descriptor) →
    Conserved w b g → k.node < w.count → router_at w k ≡ Some r → IsUnderWay w from to i (messages.Item link s n item moves) →
    opposite_end r.end ≡ source g link s → item_at r.in_queue n ≡ Some x → ⊥
not_in_in w b g k r from to i link s n item x moves law l here u end is =
    nowhere_else w b g k r (record r { in_queue = record r.in_queue { items = remove r.in_queue.items n } }) from to i link s n item moves
    law l here u (λ f one. less f (subst (λ e. f e n x ≡ 1) (sym end) (one x)))
  where
    less : (f : Weight) → f (opposite_end r.end) n x ≡ 1 → in_router f
        (record r { in_queue = record r.in_queue { items = remove r.in_queue.items n } }) + 1 ≤ in_router f r
    less f one = omega (
      arith,
      in_router-is f r,
      in_router-is f (record r
          { in_queue = record r.in_queue { items = remove r.in_queue.items n } }),
      total-remove nat_cmp nat_cmp_total nat_cmp-IsAntisymmetric (f (opposite_end r.end)) r.in_queue.items n x is,
      one,
    )

pub in_message-same : (f : Weight) (g h : Records) (m : Message) →
    ((x : LinkId) (c : Side) (j : ℕ) (z : Item) (ds : List Descriptor) → m ≡ messages.Item x c j z ds → source h x c ≡ source g x c) →
    in_message f h m ≡ in_message f g m
unfolding in_message'
in_message-same f g h (messages.Item l s n x ms) e = ap (λ d. f d n x) (e l s n x ms refl)
in_message-same f g h other e = refl
