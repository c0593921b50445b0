-- The hand of a message lowers what its node and the message are worth.
use Rattle.std.specs.Prelude.{◌≡◌, ◌≤◌, ℕ, ◌+◌, Bool, true, false, not, ◌&&◌, if◌then◌else◌, nat_lt, Option, Some, None, is_some, List}
use Rattle.std.specs.Prelude.{refl}
use Rattle.std.proofs.Common.{arith}
use Rattle.ipcz_base.specs.declared.side.Side.{Side}
use Rattle.ipcz_base.specs.declared.link_id.LinkId.{LinkId}
use Rattle.ipcz_base.specs.declared.link_id.LinkId.TheVariants.{Central}
use Rattle.ipcz_world.proofs.Vocabulary.{Descriptor, Item, Message, LinkEnd, has_link, opposite, inward_edge, Router, Node, Found, with_router}
use Rattle.ipcz_world.proofs.Vocabulary.{outward_has, accept, accept_message, accept_bypass, stop_message, stop_proxying, will_stop_message}
use Rattle.ipcz_world.proofs.Vocabulary.{proxy_will_stop, link_router, is_named, on_found, fits, handle, tell, take_in, deliver, Rates, router_worth}
use Rattle.ipcz_world.proofs.Vocabulary.{node_worth}
use Rattle.ipcz_base.specs.declared.message.Message.TheVariants as messages
use Rattle.ipcz_router.specs.Router.{router_has, rouse}
use Rattle.ipcz_router.specs.Bypass.{fits_bypass_peer, bypass_peer, is_source, fits_accept_bypass}
use Rattle.ipcz_node.specs.Node.{add_stray}
use Rattle.ipcz_node.specs.Hands.{passes_at, free_hand}
use Rattle.ipcz_world.proofs.facts.Finding.{found_tells}
use Rattle.ipcz_world.proofs.facts.Tests.{and_first}
use Rattle.ipcz_world.specs.Ranks.{moves_worth, message_worth}
use Rattle.ipcz_world.proofs.lawful.RouterWorths.{more-rouse, more-accept, more-bypass_peer, more-accept_bypass, more-stop_proxying}
use Rattle.ipcz_world.proofs.lawful.RouterWorths.{more-will_stop}
use Rattle.ipcz_world.proofs.lawful.NodeWorths.{node-with, node-push, node-made}

linked : (o : Option LinkEnd) (link : LinkId) (side : Side) → has_link o link side ≡ true → is_some o ≡ true
unfolding has_link
linked None link side h = cc
linked (Some e) link side h = refl

-- a router that was found is another
found-with : (c : Rates) (n : Node) (link : LinkId) (side : Side) (f : Found) (y : Router) (k : ℕ) → link_router n link side ≡ Some f →
    router_worth c y ≤ router_worth c f.router + k → node_worth c (with_router n f.serial y) ≤ node_worth c n + k
found-with c n link side f y k e h = omega (arith, node-with c n f.serial y f.router (found_tells n (λ r. router_has r link side) f e).0, h)

handed-item : (c : Rates) (n : Node) (sender : ℕ) (link : LinkId) (side : Side) (number : ℕ) (item : Item) (moves : List Descriptor) →
    node_worth c (handle n sender (messages.Item link side number item moves)) ≤ node_worth c n + (2 + moves_worth c moves)
unfolding handle on_found
handed-item c n sender link side number item moves = go (link_router n link side) refl
  where
    go : (o : Option Found) → link_router n link side ≡ o →
        node_worth c (on_found n o (take_in n sender link side number item moves)) ≤ node_worth c n + (2 + moves_worth c moves)
    go None e = omega arith
    go (Some f) e =
        let y : Router = accept f.router (outward_has f.router link side) number item in
        omega (
          arith,
          node-made c (with_router n f.serial y) sender moves,
          found-with c n link side f y 2 e (more-accept c f.router (outward_has f.router link side) number item),
        )

handed-peer : (c : Rates) (n : Node) (sender : ℕ) (link : LinkId) (side : Side) (old target fresh : ℕ) (source : Option ℕ) →
    fits n sender (messages.BypassPeer link side old target fresh) source ≡ true →
    node_worth c (handle n sender (messages.BypassPeer link side old target fresh)) ≤ node_worth c n + 35
unfolding handle on_found fits passes_at message_worth tell
handed-peer c n sender link side old target fresh source h = go (link_router n link side) refl h
  where
    go : (o : Option Found) → link_router n link side ≡ o →
        passes_at o (λ r. fits_bypass_peer r link side && (nat_lt target n.count && not (is_named n (Central fresh) r.end.side))) ≡ true →
        node_worth c (on_found n o (λ s r. tell (with_router n s (bypass_peer r target fresh))
        (Some (accept_message r old target fresh)))) ≤
        node_worth c n + 35
    go None e f = omega arith
    go (Some f) e g =
        let y : Router = bypass_peer f.router target fresh in
        let there : is_some f.router.outward.primary ≡ true = linked f.router.outward.primary link side
        (and_first _ _ (and_first (fits_bypass_peer f.router link side) _ g)) in
        omega (
          arith,
          node-push c (with_router n f.serial y) target (accept_message f.router old target fresh).message,
          found-with c n link side f y 11 e (more-bypass_peer c f.router target fresh there),
        )

handed-accept : (c : Rates) (n : Node) (sender old : ℕ) (side : Side) (fresh length : ℕ) (source : Option ℕ) →
    fits n sender (messages.AcceptBypass old side fresh length) source ≡ true →
    node_worth c (handle n sender (messages.AcceptBypass old side fresh length)) ≤ node_worth c n + 21
unfolding handle on_found fits passes_at message_worth tell stop_message
handed-accept c n sender old side fresh length source h = go (link_router n (Central old) side) refl h
  where
    told : (x : Node) (r : Router) (o : Option LinkEnd) → node_worth c (tell x (stop_message r o old side length)) ≤ node_worth c x + 10
    told x r None = omega arith
    told x r (Some e) = omega (arith, node-push c x e.other (messages.StopProxying (opposite side) old r.out_queue.current length))

    go : (o : Option Found) → link_router n (Central old) side ≡ o →
        (passes_at o (λ r. fits_accept_bypass r old side && not (is_named n (Central fresh) side)) && is_source sender source) ≡ true →
        node_worth c (on_found n o (λ s r. tell (with_router n s (accept_bypass r sender side fresh length))
        (stop_message r r.outward.primary old side length))) ≤ node_worth c n + 21
    go None e f = omega arith
    go (Some f) e g =
        let y : Router = accept_bypass f.router sender side fresh length in
        let there : is_some f.router.outward.primary ≡ true = linked f.router.outward.primary (Central old) side
        (and_first _ _ (and_first (fits_accept_bypass f.router old side) _ (and_first _ _ g))) in
        omega (
          arith,
          told (with_router n f.serial y) f.router f.router.outward.primary,
          found-with c n (Central old) side f y 11 e (more-accept_bypass c f.router sender side fresh length there),
        )

handed-stop : (c : Rates) (n : Node) (sender old : ℕ) (side : Side) (in_length out_length : ℕ) →
    node_worth c (handle n sender (messages.StopProxying side old in_length out_length)) ≤ node_worth c n + 7
unfolding handle on_found message_worth tell will_stop_message
handed-stop c n sender old side in_length out_length = go (link_router n (Central old) side) refl
  where
    told : (x : Node) (o : Option LinkEnd) → node_worth c (tell x (will_stop_message o in_length)) ≤ node_worth c x + 5
    told x None = omega arith
    told x (Some e) = omega (arith, node-push c x e.other (messages.ProxyWillStop e.link (opposite e.side) in_length))

    go : (o : Option Found) → link_router n (Central old) side ≡ o →
        node_worth c (on_found n o (λ s r. tell (with_router n s (stop_proxying r in_length out_length))
        (will_stop_message (inward_edge r).decaying in_length))) ≤ node_worth c n + 7
    go None e = omega arith
    go (Some f) e =
        let y : Router = stop_proxying f.router in_length out_length in
        omega (
          arith,
          told (with_router n f.serial y) (inward_edge f.router).decaying,
          found-with c n (Central old) side f y 2 e (more-stop_proxying c f.router in_length out_length),
        )

handed-end : (c : Rates) (n : Node) (sender : ℕ) (link : LinkId) (side : Side) (in_length : ℕ) →
    node_worth c (handle n sender (messages.ProxyWillStop link side in_length)) ≤ node_worth c n + 2
unfolding handle on_found
handed-end c n sender link side in_length = go (link_router n link side) refl
  where
    go : (o : Option Found) → link_router n link side ≡ o →
        node_worth c (on_found n o (λ s r. with_router n s (proxy_will_stop r in_length))) ≤ node_worth c n + 2
    go None e = omega arith
    go (Some f) e = found-with c n link side f (proxy_will_stop f.router in_length) 2 e (more-will_stop c f.router in_length)

handed-flush : (c : Rates) (n : Node) (sender : ℕ) (link : LinkId) (side : Side) →
    node_worth c (handle n sender (messages.Flush link side)) ≤ node_worth c n + 2
unfolding handle on_found
handed-flush c n sender link side = go (link_router n link side) refl
  where
    go : (o : Option Found) → link_router n link side ≡ o →
        node_worth c (on_found n o (λ s r. with_router n s (rouse r))) ≤ node_worth c n + 2
    go None e = omega arith
    go (Some f) e = found-with c n link side f (rouse f.router) 2 e (more-rouse c f.router)

handed : (c : Rates) (n : Node) (sender : ℕ) (m : Message) (source : Option ℕ) → fits n sender m source ≡ true →
    node_worth c (handle n sender m) + 1 ≤ node_worth c n + message_worth c m
unfolding message_worth
handed c n sender (messages.Item link side number item moves) source h = omega (arith, handed-item c n sender link side number item moves)
handed c n sender (messages.BypassPeer link side old target fresh) source h = omega
    (arith, handed-peer c n sender link side old target fresh source h)
handed c n sender (messages.AcceptBypass old side fresh length) source h = omega
    (arith, handed-accept c n sender old side fresh length source h)
handed c n sender (messages.StopProxying side old in_length out_length) source h = omega
    (arith, handed-stop c n sender old side in_length out_length)
handed c n sender (messages.ProxyWillStop link side in_length) source h = omega (arith, handed-end c n sender link side in_length)
handed c n sender (messages.Flush link side) source h = omega (arith, handed-flush c n sender link side)

-- a message is worth something
worth-some : (c : Rates) (m : Message) → 1 ≤ message_worth c m
unfolding message_worth
worth-some c (messages.Item link side number item moves) = omega arith
worth-some c other = omega arith

-- what isn't weighed: strays, and whose message is in hand
node-free : (c : Rates) (n : Node) (sender : ℕ) → node_worth c (free_hand n sender) ≡ node_worth c n
unfolding node_worth
node-free c n sender = refl

node-stray : (c : Rates) (n : Node) (m : Message) → node_worth c (add_stray n m) ≡ node_worth c n
unfolding node_worth
node-stray c n m = refl

-- the hand of a message
pub node-delivered : (c : Rates) (n : Node) (sender : ℕ) (m : Message) (source : Option ℕ) →
    node_worth c (deliver n sender m source) + 1 ≤ node_worth c n + message_worth c m
unfolding deliver
node-delivered c n sender m source = go (fits n sender m source) refl
  where
    go : (b : Bool) → fits n sender m source ≡ b →
        node_worth c (free_hand (if b then handle n sender m else add_stray n m) sender) + 1 ≤ node_worth c n + message_worth c m
    go true e = omega (arith, handed c n sender m source e, node-free c (handle n sender m) sender)
    go false e = omega (arith, worth-some c m, node-stray c n m, node-free c (add_stray n m) sender)
