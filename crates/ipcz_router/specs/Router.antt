-- A router: its end, its edges, its queues and its flags.
-- (ipcz: Router, with its two edges and its inbound and outbound parcels. How its flags are cut is this project's own.)
use Rattle.std.specs.Prelude.{◌≡◌, ℕ, Bool, true, false, not, ◌&&◌, ◌||◌, Option, None, is_some, is_none, option_map, unwrap_or}
use Rattle.ipcz_base.specs.declared.side.Side.{Side}
use Rattle.ipcz_base.specs.declared.side.Side.TheVariants.{A, B}
use Rattle.ipcz_base.specs.declared.end.End.{End}
use Rattle.ipcz_base.specs.declared.link_id.LinkId.{LinkId}
use Rattle.ipcz_base.specs.declared.link_end.LinkEnd.{LinkEnd}
use Rattle.ipcz_base.specs.declared.descriptor.Descriptor.{Descriptor}
use Rattle.ipcz_base.specs.declared.item.Item.{Item}
use Rattle.ipcz_base.specs.Links.{is_central, word_of}
use Rattle.ipcz_edge.specs.Edge.{Edge, edge_of, no_edge, edge_decays, edge_has, is_empty}
use Rattle.ipcz_seq.specs.Queue.{Queue, queue_from}

-- a router as contracts see it
pub record Router : Type 0 where
  pub end : End
  pub out_queue : Queue Item
  pub in_queue : Queue Item
  pub outward : Edge
  pub inward : Option Edge
  -- the word that it has claimed for the link of its bypass
  pub spare : Option ℕ
  -- its node is to look at it
  pub flagged : Bool
  -- its caller has closed it
  pub closed : Bool
  -- its side of the primary link is marked stable
  pub marked : Bool
  -- the peer's mark has come into this terminal's in queue
  pub mark_seen : Bool
  -- its last try for the lock failed
  pub tried : Bool
  -- it found no word to claim
  pub dry : Bool
  -- it holds the lock of its primary link
  pub holds : Bool
  -- the other side was waiting when this side was marked
  pub wake_owed : Bool
  -- this sink has discarded the peer's mark
  pub mark_dropped : Bool
  -- this proxy has sent Gone inward
  pub gone_sent : Bool

-- whether it has an inward edge
abbrev pub is_proxy : Router → Bool
is_proxy r = is_some r.inward

-- whether it has no inward edge
abbrev pub is_terminal : Router → Bool
is_terminal r = is_none r.inward

-- whether callers can put into it, get from it and move it: a terminal that isn't closed
abbrev pub is_open_terminal : Router → Bool
is_open_terminal r = is_terminal r && not r.closed

-- callers can put into it, get from it and move it
abbrev pub IsOpenTerminal : Router → Type 0
IsOpenTerminal r = is_open_terminal r ≡ true

-- whether it is a closed terminal
abbrev pub is_sink : Router → Bool
is_sink r = is_terminal r && r.closed

-- the inward edge, or one without links
abbrev pub inward_edge : Router → Edge
inward_edge r = unwrap_or r.inward no_edge

-- whether one of its edges decays
abbrev pub decays : Router → Bool
decays r = edge_decays r.outward || edge_decays (inward_edge r)

-- whether neither edge has a link
abbrev pub has_no_link : Router → Bool
has_no_link r = is_empty r.outward && is_empty (inward_edge r)

-- the word of its outward primary link, if that is central
abbrev pub primary_word : Router → Option ℕ
primary_word r = word_of r.outward.primary

-- the word of its outward primary link with the side of its end, which is the side of the word that it speaks for
abbrev pub word_side : Router → Option (ℕ × Side)
word_side r = option_map (λ word. (word, r.end.side)) (primary_word r)

-- the node inward of a proxy, across its inward primary link: the one that may send the AcceptBypass of its bypass
abbrev pub source_of : Router → Option ℕ
source_of r = option_map (λ e. e.other) (inward_edge r).primary

-- whether its outward primary link is central
abbrev pub is_on_central : Router → Bool
is_on_central r = is_some (primary_word r)

-- whether its outward edge has this link at this side
abbrev pub outward_has : Router → LinkId → Side → Bool
outward_has r link side = edge_has r.outward link side

-- whether its inward edge has this link at this side
abbrev pub inward_has : Router → LinkId → Side → Bool
inward_has r link side = edge_has (inward_edge r) link side

-- whether one of its edges has this link at this side
abbrev pub router_has : Router → LinkId → Side → Bool
router_has r link side = outward_has r link side || inward_has r link side

-- a new terminal with queues that begin at these numbers
abbrev pub new_terminal : End → LinkEnd → ℕ → ℕ → Bool → Router
new_terminal end link next_out next_in is_marked = record {
  end = end;
  out_queue = queue_from next_out;
  in_queue = queue_from next_in;
  outward = edge_of link;
  inward = None;
  spare = None;
  flagged = false;
  closed = false;
  marked = is_marked;
  mark_seen = false;
  tried = false;
  dry = false;
  holds = false;
  wake_owed = false;
  mark_dropped = false;
  gone_sent = false;
}

-- a terminal on a link, marked if the link is central, since its word has both sides stable
abbrev pub terminal : End → LinkEnd → ℕ → Router
terminal end link first = new_terminal end link first first (is_central link.link)

-- the end of a peripheral link at the proxy, which is toward the node that its terminal moves to
abbrev pub proxy_link : LinkId → ℕ → LinkEnd
proxy_link link to = record { link = link; side = A; other = to }

-- the end of a peripheral link at the moved terminal, which is toward the node that it comes from
abbrev pub moved_link : Descriptor → ℕ → LinkEnd
moved_link d sender = record { link = d.link; side = B; other = sender }

-- the terminal that is made from a descriptor
abbrev pub from_descriptor : Descriptor → ℕ → Router
from_descriptor d sender = new_terminal d.end (moved_link d sender) d.next_out d.next_in false

-- the router is to be looked at, and may try again
abbrev pub rouse : Router → Router
rouse r = record r { flagged = true; tried = false }
