-- What the messages of a bypass do to a router, and what it sends in turn.
-- (ipcz: Router::BypassPeer, AcceptBypassLink, StopProxying, NotifyProxyWillStop. The lengths are exchanged as there.)
use Rattle.std.specs.Prelude.{nat_eq, ℕ, Bool, true, false, not, ◌&&◌, Option, Some, None, is_none, option_map}
use Rattle.ipcz_base.specs.declared.side.Side.{Side}
use Rattle.ipcz_base.specs.declared.link_id.LinkId.{LinkId}
use Rattle.ipcz_base.specs.declared.link_id.LinkId.TheVariants.{Central}
use Rattle.ipcz_base.specs.declared.link_end.LinkEnd.{LinkEnd}
use Rattle.ipcz_base.specs.declared.message.Message.TheVariants.{AcceptBypass, StopProxying, ProxyWillStop}
use Rattle.ipcz_base.specs.Sides.{opposite}
use Rattle.ipcz_base.specs.Links.{has_link, is_central, central_end}
use Rattle.ipcz_edge.specs.Edge.{Edge, edge_decays, begin_decay, set_primary, set_length_to, set_length_from}
use Rattle.ipcz_router.specs.declared.sending.Sending.{Sending}
use Rattle.ipcz_router.specs.Router.{Router, inward_edge, rouse}

-- the router with another outward edge, whose primary link is another
abbrev pub relink : Router → Edge → Router
relink r edge = record r { outward = edge; marked = false; tried = false; wake_owed = false; holds = false }

-- the outward edge decays toward a new central link
abbrev pub outward_onto : Router → ℕ → Side → ℕ → Edge
outward_onto r fresh side other =
    set_length_to (set_primary (begin_decay r.outward) (central_end fresh side other)) r.out_queue.current

-- whether BypassPeer fits: the link is the outward primary one, peripheral, and the edge doesn't decay
abbrev pub fits_bypass_peer : Router → LinkId → Side → Bool
fits_bypass_peer r link side = has_link r.outward.primary link side && (not (is_central link) && not (edge_decays r.outward))

-- the router inward of the proxy takes the fresh link
abbrev pub bypass_peer : Router → ℕ → ℕ → Router
bypass_peer r target fresh = record (relink r (outward_onto r fresh r.end.side target)) { flagged = true }

-- it tells the router across
abbrev pub accept_message : Router → ℕ → ℕ → ℕ → Sending
accept_message r old target fresh = record { to = target; message = AcceptBypass old (opposite r.end.side) fresh r.out_queue.current }

-- whether AcceptBypass fits: the old link is the outward primary one, and the edge doesn't decay
abbrev pub fits_accept_bypass : Router → ℕ → Side → Bool
fits_accept_bypass r old side = has_link r.outward.primary (Central old) side && not (edge_decays r.outward)

-- whether a node is the source of the old link's word, the only one that may send AcceptBypass: else the message is Forged
unfoldable pub is_source : ℕ → Option ℕ → Bool
is_source sender None = false
is_source sender (Some node) = nat_eq sender node

-- the router across takes the fresh link
abbrev pub accept_bypass : Router → ℕ → Side → ℕ → ℕ → Router
accept_bypass r sender side fresh length =
    record (relink r (set_length_from (outward_onto r fresh side sender) length)) { flagged = true }

-- it tells the proxy
unfoldable pub stop_message : Router → Option LinkEnd → ℕ → Side → ℕ → Option Sending
stop_message r None old side length = None
stop_message r (Some e) old side length =
    Some (record { to = e.other; message = StopProxying (opposite side) old r.out_queue.current length })

-- whether an edge has a decaying link with both lengths unknown
abbrev pub decays_unknown : Edge → Bool
decays_unknown e = edge_decays e && (is_none e.length_to && is_none e.length_from)

-- whether StopProxying fits: the old link is the outward decaying one, and both edges decay with unknown lengths
abbrev pub fits_stop_proxying : Router → ℕ → Side → Bool
fits_stop_proxying r old side =
    has_link r.outward.decaying (Central old) side && (decays_unknown r.outward && decays_unknown (inward_edge r))

-- the proxy learns its lengths
abbrev pub stop_proxying : Router → ℕ → ℕ → Router
stop_proxying r in_length out_length =
    rouse (record r {
      outward = set_length_from (set_length_to r.outward out_length) in_length;
      inward = option_map (λ e. set_length_from (set_length_to e in_length) out_length) r.inward;
    })

-- it tells the router inward
unfoldable pub will_stop_message : Option LinkEnd → ℕ → Option Sending
will_stop_message None in_length = None
will_stop_message (Some e) in_length = Some (record { to = e.other; message = ProxyWillStop e.link (opposite e.side) in_length })

-- whether ProxyWillStop fits: the link is the outward decaying one, and the length from it is unknown
abbrev pub fits_proxy_will_stop : Router → LinkId → Side → Bool
fits_proxy_will_stop r link side = has_link r.outward.decaying link side && is_none r.outward.length_from

-- the router inward learns its length
abbrev pub proxy_will_stop : Router → ℕ → Router
proxy_will_stop r in_length = rouse (record r { outward = set_length_from r.outward in_length })
