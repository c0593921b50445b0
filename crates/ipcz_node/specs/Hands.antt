-- What a node does with a message that comes, and which messages don't fit.
-- (ipcz: the handlers of NodeLink. What is kept as a stray is this project's own: ipcz drops the link that such a message came over.)
use Rattle.std.specs.Prelude.{ℕ, Bool, true, false, not, ◌&&◌, ◌||◌, nat_eq, nat_lt, nat_le, if◌then◌else◌, Option, Some, None, List, []}
use Rattle.std.specs.Prelude.{◌∷◌, length}
use Rattle.ipcz_base.specs.declared.side.Side.{Side}
use Rattle.ipcz_base.specs.declared.side.Side.TheVariants.{B}
use Rattle.ipcz_base.specs.declared.end.End.{End}
use Rattle.ipcz_base.specs.declared.link_id.LinkId.{LinkId}
use Rattle.ipcz_base.specs.declared.link_id.LinkId.TheVariants.{Central}
use Rattle.ipcz_base.specs.declared.descriptor.Descriptor.{Descriptor}
use Rattle.ipcz_base.specs.declared.item.Item.{Item}
use Rattle.ipcz_base.specs.declared.message.Message.{Message}
use Rattle.ipcz_base.specs.declared.message.Message.TheVariants as messages
use Rattle.ipcz_base.specs.Ends.{same_end}
use Rattle.ipcz_base.specs.Items.{ends_in}
use Rattle.ipcz_base.specs.Limits.{last_number, has_serials}
use Rattle.ipcz_base.specs.Links.{same_link}
use Rattle.ipcz_router.specs.declared.sending.Sending.{Sending}
use Rattle.ipcz_router.specs.Router.{Router, outward_has, inward_edge, from_descriptor, rouse}
use Rattle.ipcz_router.specs.Calls.{has_place_for, accept}
use Rattle.ipcz_router.specs.Bypass.{fits_bypass_peer, bypass_peer, accept_message, fits_accept_bypass, is_source, accept_bypass}
use Rattle.ipcz_router.specs.Bypass.{stop_message}
use Rattle.ipcz_router.specs.Bypass.{fits_stop_proxying, stop_proxying, will_stop_message, fits_proxy_will_stop, proxy_will_stop}
use Rattle.ipcz_node.specs.Node.{Node, Found, link_router, is_named, on_found, with_router, add_router, push_out, add_stray}

-- the link that names the router which a message is for
unfoldable pub link_asked : Message → LinkId
link_asked (messages.Item link side number item moves) = link
link_asked (messages.BypassPeer link side old target fresh) = link
link_asked (messages.AcceptBypass old side fresh length) = Central old
link_asked (messages.StopProxying side old in_length out_length) = Central old
link_asked (messages.ProxyWillStop link side in_length) = link
link_asked (messages.Flush link side) = link

-- the side of that link which a message is for
unfoldable pub side_asked : Message → Side
side_asked (messages.Item link side number item moves) = side
side_asked (messages.BypassPeer link side old target fresh) = side
side_asked (messages.AcceptBypass old side fresh length) = side
side_asked (messages.StopProxying side old in_length out_length) = side
side_asked (messages.ProxyWillStop link side in_length) = side
side_asked (messages.Flush link side) = side

-- whether one of these descriptors has the link
abbrev pub has_moved : LinkId → List Descriptor → Bool
has_moved link [] = false
has_moved link (d ∷ ds) = same_link d.link link || has_moved link ds

-- whether a descriptor can be made a terminal here
abbrev pub is_new_move : Node → Descriptor → Bool
is_new_move n d = not (is_named n d.link B) && nat_le d.next_out last_number

-- whether the moves are one per end, in order, and each can be made a terminal here
abbrev pub fit_moves : Node → List End → List Descriptor → Bool
fit_moves n [] [] = true
fit_moves n [] (d ∷ ds) = false
fit_moves n (e ∷ es) [] = false
fit_moves n (e ∷ es) (d ∷ ds) = same_end d.end e && (is_new_move n d && (not (has_moved d.link ds) && fit_moves n es ds))

-- whether an item's moves fit: one for each of its ends from another node, none from this one
abbrev pub fits_from : Node → ℕ → Item → List Descriptor → Bool
fits_from n sender item moves = if nat_eq sender n.number then nat_eq (length moves) 0 else fit_moves n (ends_in item) moves

-- whether an item fits at the router that was found
unfoldable pub fits_item : Node → ℕ → LinkId → Side → ℕ → Item → List Descriptor → Option Found → Bool
fits_item n sender link side number item moves None = false
fits_item n sender link side number item moves (Some f) =
    has_place_for f.router (outward_has f.router link side) number && fits_from n sender item moves

-- whether the router that was found passes a test
unfoldable pub passes_at : Option Found → (Router → Bool) → Bool
passes_at None test = false
passes_at (Some f) test = test f.router

-- whether a message from a node fits; a Flush always does. AcceptBypass is also to come from the source of the old link's word, which is
-- given last and which no other message looks at
unfoldable pub fits : Node → ℕ → Message → Option ℕ → Bool
fits n sender (messages.Item link side number item moves) source = fits_item n sender link side number item moves (link_router n link side)
fits n sender (messages.BypassPeer link side old target fresh) source =
    passes_at (link_router n link side) (λ r. fits_bypass_peer r link side &&
    (nat_lt target n.count && not (is_named n (Central fresh) r.end.side)))
fits n sender (messages.AcceptBypass old side fresh length) source =
    passes_at (link_router n (Central old) side) (λ r. fits_accept_bypass r old side && not (is_named n (Central fresh) side)) &&
    is_source sender source
fits n sender (messages.StopProxying side old in_length out_length) source =
    passes_at (link_router n (Central old) side) (λ r. fits_stop_proxying r old side)
fits n sender (messages.ProxyWillStop link side in_length) source = passes_at (link_router n link side)
    (λ r. fits_proxy_will_stop r link side)
fits n sender (messages.Flush link side) source = true

-- the node with the terminals that the moves make, in order
abbrev pub make_terminals : Node → ℕ → List Descriptor → Node
make_terminals n sender [] = n
make_terminals n sender (d ∷ ds) = make_terminals (add_router n (from_descriptor d sender)) sender ds

-- a router takes an item, and its moves become terminals
abbrev pub take_in : Node → ℕ → LinkId → Side → ℕ → Item → List Descriptor → ℕ → Router → Node
take_in n sender link side number item moves serial r =
    make_terminals (with_router n serial (accept r (outward_has r link side) number item)) sender moves

-- the node with a message more to send, if there is one
unfoldable pub tell : Node → Option Sending → Node
tell n None = n
tell n (Some s) = push_out n s.to s.message

-- a Flush rouses the router that it finds
abbrev pub flushed : Router → Router
flushed r = rouse r

-- the node after a message that fits; a Flush that finds no router is dropped
unfoldable pub handle : Node → ℕ → Message → Node
handle n sender (messages.Item link side number item moves) =
    on_found n (link_router n link side) (take_in n sender link side number item moves)
handle n sender (messages.BypassPeer link side old target fresh) =
    on_found n (link_router n link side) (λ s r. tell (with_router n s (bypass_peer r target fresh))
    (Some (accept_message r old target fresh)))
handle n sender (messages.AcceptBypass old side fresh length) =
    on_found n (link_router n (Central old) side) (λ s r. tell (with_router n s (accept_bypass r sender side fresh length))
    (stop_message r r.outward.primary old side length))
handle n sender (messages.StopProxying side old in_length out_length) =
    on_found n (link_router n (Central old) side) (λ s r. tell (with_router n s (stop_proxying r in_length out_length))
    (will_stop_message (inward_edge r).decaying in_length))
handle n sender (messages.ProxyWillStop link side in_length) =
    on_found n (link_router n link side) (λ s r. with_router n s (proxy_will_stop r in_length))
handle n sender (messages.Flush link side) = on_found n (link_router n link side) (λ s r. with_router n s (flushed r))

-- how many serials of routers a message takes
unfoldable pub serials_in : Message → ℕ
serials_in (messages.Item link side number item moves) = length moves
serials_in other = 0

-- whether a message can't be handled for want of serials
abbrev pub message_lacks_serials : Node → ℕ → Message → Option ℕ → Bool
message_lacks_serials n sender m source = fits n sender m source && not (has_serials n.next_router (serials_in m))

-- whether a message that fits makes something grow: it brings an item, or makes a router send; a ProxyWillStop only tells a length, and a
-- Flush only rouses
unfoldable pub grows_where_it_fits : Message → Bool
grows_where_it_fits (messages.ProxyWillStop link side in_length) = false
grows_where_it_fits (messages.Flush link side) = false
grows_where_it_fits other = true

-- whether delivering a message makes something grow, and so may want memory: one that doesn't fit is kept among the strays
abbrev pub message_grows : Node → ℕ → Message → Option ℕ → Bool
message_grows n sender m source = not (fits n sender m source) || grows_where_it_fits m

-- whether the message in hand is of this sender
unfoldable pub is_hand_of : Option ℕ → ℕ → Bool
is_hand_of None sender = false
is_hand_of (Some s) sender = nat_eq s sender

-- the node with an empty hand, if the message in hand was of this sender
abbrev pub free_hand : Node → ℕ → Node
free_hand n sender = record n { hand = if is_hand_of n.hand sender then None else n.hand }

-- the node after a message from a node: handled, or kept whole if it doesn't fit
unfoldable pub deliver : Node → ℕ → Message → Option ℕ → Node
deliver n sender m source = free_hand (if fits n sender m source then handle n sender m else add_stray n m) sender

-- whether a message is kept as a stray, or is a Flush that finds no router
abbrev pub is_unfit : Node → ℕ → Message → Option ℕ → Bool
is_unfit n sender m source = not (fits n sender m source && is_named n (link_asked m) (side_asked m))
