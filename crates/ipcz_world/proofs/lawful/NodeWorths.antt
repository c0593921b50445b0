-- What the changes of a node make of its worth: a router, a message to send, ends to close, terminals that move.
use Rattle.std.specs.Prelude.{◌≡◌, ◌≤◌, ℕ, ◌+◌, ◌*◌, ◌-◌, Bool, true, false, nat_eq}
use Rattle.std.specs.Prelude.{Option, Some, None}
use Rattle.std.specs.Prelude.{List, [], ◌∷◌, ◌++◌, length, refl}
use Rattle.std.proofs.Common.{arith, subst, sym}
use Rattle.std.specs.Ordering.{nat_cmp}
use Rattle.std.specs.Cmp.{nat_cmp_total}
use Rattle.std.specs.FinMap.{nat_cmp-IsAntisymmetric, get}
use Rattle.std.proofs.lemmas.List.{length-append}
use Rattle.ipcz_world.proofs.Vocabulary.{End, Descriptor, Item, Message, LinkEnd, opposite_end, ends_in, Router, Node, Found, with_router}
use Rattle.ipcz_world.proofs.Vocabulary.{from_descriptor, outbox, terminal_of, descriptor_of, without_router, with_outbox, push_out, add_router}
use Rattle.ipcz_world.proofs.Vocabulary.{is_terminal_of, Transfer, move_found, move_ends, send_item, make_terminals, Rates, router_worth, node_worth}
use Rattle.ipcz_base.proofs.Totals.{total-insert, total-insert_new, total-remove}
use Rattle.ipcz_router.specs.Router.{proxy_link}
use Rattle.ipcz_router.specs.Calls.{extend}
use Rattle.ipcz_node.specs.Sends.{next_link, move_router, move_end}
use Rattle.ipcz_node.specs.Sends.{item_message}
use Rattle.ipcz_world.proofs.frames.Totalling.{total_list-append, total_list-put_place}
use Rattle.ipcz_world.proofs.facts.Finding.{found_tells}
use Rattle.ipcz_world.proofs.facts.Tests.{and_second}
use Rattle.ipcz_world.proofs.facts.LinkTests.{same_end-tells}
use Rattle.ipcz_world.specs.Ranks.{worth_left, moves_worth, message_worth, box_worth, moving_worth}
use Rattle.ipcz_world.proofs.lawful.RouterWorths.{more-extend, worth-moved}

-- a router is another
pub node-with : (c : Rates) (n : Node) (s : ℕ) (y r : Router) → get n.routers s ≡ Some r →
    node_worth c (with_router n s y) + router_worth c r ≡ node_worth c n + router_worth c y
unfolding node_worth
node-with c n s y r e = omega (
  arith,
  total-insert nat_cmp nat_cmp_total nat_cmp-IsAntisymmetric (λ k x. router_worth c x) n.routers s y r e,
)

pub node-new : (c : Rates) (n : Node) (s : ℕ) (y : Router) → node_worth c (with_router n s y) ≤ node_worth c n + router_worth c y
unfolding node_worth
node-new c n s y = go (get n.routers s) refl
  where
    go : (o : Option Router) → get n.routers s ≡ o → node_worth c (with_router n s y) ≤ node_worth c n + router_worth c y
    go None e = omega (arith, total-insert_new nat_cmp nat_cmp_total nat_cmp-IsAntisymmetric (λ k x. router_worth c x) n.routers s y e)
    go (Some r) e = omega (arith, node-with c n s y r e)

-- a router leaves
pub node-without : (c : Rates) (n : Node) (s : ℕ) (r : Router) → get n.routers s ≡ Some r →
    node_worth c (without_router n s) + router_worth c r ≡ node_worth c n
unfolding node_worth
node-without c n s r e = omega (
  arith,
  total-remove nat_cmp nat_cmp_total nat_cmp-IsAntisymmetric (λ k x. router_worth c x) n.routers s r e,
)

-- other messages wait
pub node-outbox : (c : Rates) (n : Node) (to : ℕ) (ms : List Message) →
    node_worth c (with_outbox n to ms) + box_worth c (outbox n to) ≡ node_worth c n + box_worth c ms
unfolding node_worth
node-outbox c n to ms = omega (arith, total_list-put_place (box_worth c) [] n.outboxes to ms refl)

pub node-push : (c : Rates) (n : Node) (to : ℕ) (m : Message) → node_worth c (push_out n to m) ≡ node_worth c n + (message_worth c m + 2)
node-push c n to m = omega (
  arith,
  node-outbox c n to (outbox n to ++ m ∷ []),
  total_list-append (λ m. message_worth c m + 2) (outbox n to) (m ∷ []),
)

-- ends are to be closed
pub node-pending : (c : Rates) (n : Node) (ends : List End) →
    node_worth c (record n { pending = n.pending ++ ends }) ≡ node_worth c n + 3 * length ends
unfolding node_worth
node-pending c n ends = omega (arith, length-append n.pending ends)

-- the closing of ends is worth no more than their moves
pub closing-most : (c : Rates) (ends : List End) → 3 * length ends ≤ moving_worth c ends
closing-most c [] = omega arith
closing-most c (e ∷ es) = omega (arith, closing-most c es)

-- a router is added
node-added : (c : Rates) (n : Node) (y : Router) → node_worth c (add_router n y) ≤ node_worth c n + router_worth c y
unfolding node_worth
node-added c n y = node-new c n n.next_router y

-- descriptors are made terminals
pub node-made : (c : Rates) (n : Node) (sender : ℕ) (ds : List Descriptor) →
    node_worth c (make_terminals n sender ds) ≤ node_worth c n + moves_worth c ds
node-made c n sender [] = omega arith
node-made c n sender (d ∷ ds) = omega (
  arith,
  node-made c (add_router n (from_descriptor d sender)) sender ds,
  node-added c n (from_descriptor d sender),
  worth-moved c d sender,
)

-- what numbers are worth at most
price-grows : (p m k : ℕ) → p * m ≤ p * (m + k)
price-grows p m k = omega arith

pub left-most : (c : Rates) (e : End) (m n : ℕ) → worth_left c e m n ≤ c.price e.pair * (c.cap e + c.cap (opposite_end e))
left-most c e m n =
    let a : ℕ = (c.cap e - m) + (c.cap (opposite_end e) - n) in
    let b : ℕ = c.cap e + c.cap (opposite_end e) in
    let whole : b ≡ a + (b - a) = omega arith in
    subst (λ x. c.price e.pair * a ≤ c.price e.pair * x) (sym whole) (price-grows (c.price e.pair) a (b - a))

-- a transfer's worth: the node's and that of the descriptors that are to travel
abbrev pub transfer_worth : Rates → Transfer → ℕ
transfer_worth c t = node_worth c t.node + moves_worth c t.moves

abbrev pub end_worth : Rates → End → ℕ
end_worth c e = 55 + c.price e.pair * (c.cap e + c.cap (opposite_end e))

-- a field that isn't weighed
node-numbered : (c : Rates) (n : Node) (i : ℕ) → node_worth c (record n { next_peripheral = i }) ≡ node_worth c n
unfolding node_worth
node-numbered c n i = refl

transfer-router : (c : Rates) (t : Transfer) (to s : ℕ) (r : Router) (e : End) → get t.node.routers s ≡ Some r → r.end ≡ e →
    transfer_worth c (move_router t to s r) ≤ transfer_worth c t + end_worth c e
transfer-router c t to s r e here is =
    let link : LinkEnd = proxy_link (next_link t.node) to in
    let d : Descriptor = descriptor_of r (next_link t.node) in
    let most : worth_left c r.end d.next_out d.next_in ≤ c.price e.pair * (c.cap e + c.cap (opposite_end e)) =
    subst (λ x. worth_left c r.end d.next_out d.next_in ≤ c.price x.pair * (c.cap x + c.cap (opposite_end x))) is
    (left-most c r.end d.next_out d.next_in) in
    omega (
      arith,
      most,
      node-numbered c (with_router t.node s (extend r link)) (t.node.next_peripheral + 1),
      node-with c t.node s (extend r link) r here,
      more-extend c r link,
      total_list-append (λ d. 9 + worth_left c d.end d.next_out d.next_in) t.moves (d ∷ []),
    )

transfer-end : (c : Rates) (t : Transfer) (to : ℕ) (e : End) → transfer_worth c (move_end t to e) ≤ transfer_worth c t + end_worth c e
unfolding move_found
transfer-end c t to e = go (terminal_of t.node e) refl
  where
    go : (o : Option Found) → terminal_of t.node e ≡ o → transfer_worth c (move_found t to o) ≤ transfer_worth c t + end_worth c e
    go None q = omega arith
    go (Some f) q = let k = found_tells t.node (is_terminal_of e) f q in
        transfer-router c t to f.serial f.router e k.0 (same_end-tells f.router.end e (and_second _ _ k.1))

transfer-ends : (c : Rates) (t : Transfer) (to : ℕ) (es : List End) →
    transfer_worth c (move_ends t to es) ≤ transfer_worth c t + moving_worth c es
transfer-ends c t to [] = omega arith
transfer-ends c t to (e ∷ es) = omega (arith, transfer-ends c (move_end t to e) to es, transfer-end c t to e)

-- an item is sent
pub node-sent : (c : Rates) (n : Node) (link : LinkEnd) (i : ℕ) (item : Item) →
    node_worth c (send_item n link i item) ≤ node_worth c n + (5 + moving_worth c (ends_in item))
unfolding send_item message_worth
node-sent c n link i item = go (nat_eq link.other n.number) refl
  where
    go : (b : Bool) → nat_eq link.other n.number ≡ b →
        node_worth c (send_item n link i item) ≤ node_worth c n + (5 + moving_worth c (ends_in item))
    go true e = rw e (omega (arith, node-push c n link.other (item_message link i item [])))
    go false e =
        let t : Transfer = move_ends (record { node = n; moves = [] }) link.other (ends_in item) in
        rw e (omega (
          arith,
          node-push c t.node link.other (item_message link i item t.moves),
          transfer-ends c (record { node = n; moves = [] }) link.other (ends_in item),
        ))
