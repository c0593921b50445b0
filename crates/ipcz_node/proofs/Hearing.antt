-- What a message that brings no item is to the router that has its link, told by the message whole.
use Rattle.std.proofs.Common.{◌≡◌, ◌&&◌, not, ℕ, Bool, true, false, Option, Some, None, refl, ◌∙◌, ap, subst, true≢false, arith}
use Rattle.std.specs.Prelude.{IfSome, IfNone, IsSomeAnd}
use Rattle.ipcz_base.specs.declared.link_id.LinkId.TheVariants.{Central}
use Rattle.ipcz_base.specs.declared.message.Message.{Message}
use Rattle.ipcz_base.specs.declared.message.Message.TheVariants as messages
use Rattle.ipcz_router.specs.Router.{Router, inward_edge}
use Rattle.ipcz_router.specs.Bypass.{fits_accept_bypass, is_source}
use Rattle.ipcz_router.specs.Hearing.{hears, hear, answer_to, links_brought}
use Rattle.ipcz_node.specs.Node.{Node, Found, found, router_in, link_router, is_named, on_found, with_router}
use Rattle.ipcz_node.specs.Hands.{link_asked, side_asked, passes_at, fits, handle, tell, grows_where_it_fits}
use Rattle.ipcz_node.specs.RoomyNodes.{RoomyNode}
use Rattle.ipcz_node.specs.Telling.{HasRoomFor, HasRoomToward, brings_item}
use Rattle.ipcz_node.specs.Hearing.{is_news, is_dropped, HasRoomToHear, IsAsked}
use Rattle.ipcz_node.proofs.AtRouter.{taken}
use Rattle.ipcz_node.proofs.Telling.{room_to_stop, room_to_will_stop}

-- the router that a message asks for, if its serial is known
pub asked_at : (n : Node) (m : Message) (o : Option ℕ) (s : ℕ) → o ≡ Some s → IsAsked n m o →
    (r : Router) × (router_in n s ≡ Some r) × (link_router n (link_asked m) (side_asked m) ≡ Some (found s r))
asked_at n m o s is h = taken (router_in n s) (λ (r : Router). link_router n (link_asked m) (side_asked m) ≡ Some (found s r))
    (subst (λ x. IfSome x (λ s. IsSomeAnd (router_in n s) (λ r. link_router n (link_asked m) (side_asked m) ≡ Some (found s r)))) is h.1)

-- no router has the link that it asks for
pub asked_none : (n : Node) (m : Message) (o : Option ℕ) → o ≡ None → IsAsked n m o → link_router n (link_asked m) (side_asked m) ≡ None
asked_none n m o is h = subst (λ x. IfNone x (link_router n (link_asked m) (side_asked m) ≡ None)) is h.0

with_true : (a : Bool) → a ≡ (a && true)
with_true true = refl
with_true false = refl

other_order : (a b c : Bool) → ((a && b) && c) ≡ ((a && c) && b)
other_order true true true = refl
other_order true true false = refl
other_order true false true = refl
other_order true false false = refl
other_order false b c = refl

on_some : (n : Node) (o : Option Found) (s : ℕ) (r : Router) (change : ℕ → Router → Node) → o ≡ Some (found s r) →
    on_found n o change ≡ change s r
unfolding on_found
on_some n o s r change here = ap (λ x. on_found n x change) here

on_none : (n : Node) (o : Option Found) (change : ℕ → Router → Node) → o ≡ None → on_found n o change ≡ n
unfolding on_found
on_none n o change none = ap (λ x. on_found n x change) none

passes_some : (o : Option Found) (s : ℕ) (r : Router) (test : Router → Bool) → o ≡ Some (found s r) → passes_at o test ≡ test r
unfolding passes_at
passes_some o s r test here = ap (λ x. passes_at x test) here

passes_none : (o : Option Found) (test : Router → Bool) → o ≡ None → passes_at o test ≡ false
unfolding passes_at
passes_none o test none = ap (λ x. passes_at x test) none

module _ (n : Node) (sender : ℕ) (s : ℕ) (r : Router) where
  -- if a router has the link that is asked for, the message fits that it hears and that brings news
  pub found_fits : (m : Message) (source : Option ℕ) → link_router n (link_asked m) (side_asked m) ≡ Some (found s r) →
      brings_item m ≡ false → fits n sender m source ≡ (hears r sender m source && is_news n r m)
  unfolding link_asked side_asked fits hears is_news brings_item
  found_fits (messages.Item link side number item moves) source here other = absurd (true≢false other)
  found_fits (messages.BypassPeer link side old target fresh) source here other = passes_some _ s r _ here
  found_fits (messages.AcceptBypass old side fresh length) source here other =
      ap (λ b. b && is_source sender source) (passes_some _ s r _ here)
      ∙ other_order (fits_accept_bypass r old side) (not (is_named n (Central fresh) side)) (is_source sender source)
  found_fits (messages.StopProxying side old in_length out_length) source here other = passes_some _ s r _ here ∙ with_true _
  found_fits (messages.ProxyWillStop link side in_length) source here other = passes_some _ s r _ here ∙ with_true _
  found_fits (messages.Flush link side) source here other = refl

  -- and it is handled as the router hears it
  pub found_handled : (m : Message) → link_router n (link_asked m) (side_asked m) ≡ Some (found s r) → brings_item m ≡ false →
      handle n sender m ≡ tell (with_router n s (hear r sender m)) (answer_to r m)
  unfolding link_asked side_asked handle tell hear answer_to brings_item
  found_handled (messages.Item link side number item moves) here other = absurd (true≢false other)
  found_handled any here other = on_some n _ s r _ here

-- if no router has the link, only a Flush fits
pub lost_fits : (n : Node) (sender : ℕ) (m : Message) (source : Option ℕ) → link_router n (link_asked m) (side_asked m) ≡ None →
    brings_item m ≡ false → fits n sender m source ≡ is_dropped m
unfolding link_asked side_asked fits is_dropped brings_item
lost_fits n sender (messages.Item link side number item moves) source none other = absurd (true≢false other)
lost_fits n sender (messages.AcceptBypass old side fresh length) source none other = ap (λ b. b && is_source sender source) (passes_none _ _ none)
lost_fits n sender (messages.Flush link side) source none other = refl
lost_fits n sender any source none other = passes_none _ _ none

-- and the node stays as it is
pub lost_handled : (n : Node) (sender : ℕ) (m : Message) → link_router n (link_asked m) (side_asked m) ≡ None → brings_item m ≡ false →
    handle n sender m ≡ n
unfolding link_asked side_asked handle brings_item
lost_handled n sender (messages.Item link side number item moves) none other = absurd (true≢false other)
lost_handled n sender any none other = on_none n _ _ none

-- the room that a message wants is that for the router which has its link
pub found_room : (k : RoomyNode) (m : Message) (s : ℕ) (r : Router) → link_router k.node (link_asked m) (side_asked m) ≡ Some (found s r) →
    brings_item m ≡ false → HasRoomFor k m → HasRoomToHear k m r
unfolding link_asked side_asked HasRoomFor answer_to links_brought brings_item
found_room k (messages.Item link side number item moves) s r here other room = absurd (true≢false other)
found_room k (messages.BypassPeer link side old target fresh) s r here other room = (omega (arith, room.0), room.1)
found_room k (messages.AcceptBypass old side fresh length) s r here other room = (
  omega (arith, room.0),
  room_to_stop k r r.outward.primary old side length
      (subst (λ (o : Option Found). IfSome o (λ f. HasRoomToward k f.router.outward.primary)) here room.1),
)
found_room k (messages.StopProxying side old in_length out_length) s r here other room = (
  omega arith,
  room_to_will_stop k (inward_edge r).decaying in_length
      (subst (λ (o : Option Found). IfSome o (λ f. HasRoomToward k (inward_edge f.router).decaying)) here room),
)
found_room k (messages.ProxyWillStop link side in_length) s r here other room = (omega arith, tt)
found_room k (messages.Flush link side) s r here other room = (omega arith, tt)

-- a message that makes nothing grow wants none
pub no_room_wanted : (k : RoomyNode) (m : Message) (r : Router) → grows_where_it_fits m ≡ false → HasRoomToHear k m r
unfolding grows_where_it_fits answer_to links_brought
no_room_wanted k (messages.ProxyWillStop link side in_length) r none = (omega arith, tt)
no_room_wanted k (messages.Flush link side) r none = (omega arith, tt)
no_room_wanted k other r none = absurd (true≢false none)
