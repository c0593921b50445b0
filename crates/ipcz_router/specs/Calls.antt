-- What put, get, an item's coming and a move do to a router, and why they are refused.
-- (ipcz: put and get of a portal; a parcel's coming at a router, inbound or outbound; the making of a new router's descriptor.)
use Rattle.std.specs.Prelude.{ℕ, Bool, true, false, ◌&&◌, ◌||◌, nat_le, nat_lt, if◌then◌else◌, Option, Some, None, is_some}
use Rattle.ipcz_base.specs.declared.side.Side.{Side}
use Rattle.ipcz_base.specs.declared.link_id.LinkId.{LinkId}
use Rattle.ipcz_base.specs.declared.link_end.LinkEnd.{LinkEnd}
use Rattle.ipcz_base.specs.declared.descriptor.Descriptor.{Descriptor}
use Rattle.ipcz_base.specs.declared.parcel.Sizes.{Sizes}
use Rattle.ipcz_base.specs.declared.item.Item.{Item}
use Rattle.ipcz_base.specs.declared.item.Item.TheVariants.{Parcel, Mark, Gone}
use Rattle.ipcz_base.specs.declared.refusal.Refusal.{Refusal}
use Rattle.ipcz_base.specs.declared.refusal.Refusal.TheVariants.{Empty, PeerClosed, NumbersEnd, Stranger}
use Rattle.ipcz_base.specs.Items.{is_mark, sizes_in}
use Rattle.ipcz_base.specs.Limits.{last_number, no_number}
use Rattle.ipcz_edge.specs.Edge.{edge_of}
use Rattle.ipcz_seq.specs.Queue.{push_at, pop_front, current_item, reach, has_place, push_refusal}
use Rattle.ipcz_router.specs.Router.{Router, is_terminal, outward_has, inward_has, rouse}

-- the number that the next item put gets
abbrev pub next_number : Router → ℕ
next_number r = reach r.out_queue

-- the item is put into the out queue
abbrev pub put_item : Router → Item → Router
put_item r item = rouse (record r { out_queue = push_at r.out_queue (next_number r) item })

-- why a put is refused, memory aside
abbrev pub router_put_refusal : Router → Option Refusal
router_put_refusal r = if r.mark_seen then Some PeerClosed else if nat_le last_number (next_number r) then Some NumbersEnd else None

-- why a get is refused
unfoldable pub item_refusal : Option Item → Option Refusal
item_refusal None = Some Empty
item_refusal (Some (Parcel p)) = None
item_refusal (Some Mark) = Some PeerClosed
item_refusal (Some Gone) = Some PeerClosed

-- why a get at a terminal is refused
abbrev pub router_get_refusal : Router → Option Refusal
router_get_refusal r = item_refusal (current_item r.in_queue)

-- whether a get at a terminal isn't Empty: a parcel has come, or the peer's mark
abbrev pub has_come : Router → Bool
has_come r = is_some (current_item r.in_queue)

-- the sizes of the parcel of an item, if there is one and it is a parcel
unfoldable pub sizes_found : Option Item → Option Sizes
sizes_found None = None
sizes_found (Some item) = sizes_in item

-- the current item of the in queue leaves
abbrev pub take_item : Router → Router
take_item r = record r { in_queue = pop_front r.in_queue }

-- whether an item of this number, from outward or not, has its place
abbrev pub has_place_for : Router → Bool → ℕ → Bool
has_place_for r from_outward n = nat_lt n no_number && (if from_outward then has_place r.in_queue n else has_place r.out_queue n)

-- an item comes over a link of the outward edge; a terminal sees the mark at once, even behind a gap
abbrev pub accept_from_outward : Router → ℕ → Item → Router
accept_from_outward r n item =
    rouse (record r { in_queue = push_at r.in_queue n item; mark_seen = r.mark_seen || (is_terminal r && is_mark item) })

-- an item comes over a link of the inward edge
abbrev pub accept_from_inward : Router → ℕ → Item → Router
accept_from_inward r n item = rouse (record r { out_queue = push_at r.out_queue n item })

-- an item comes
unfoldable pub accept : Router → Bool → ℕ → Item → Router
accept r true n item = accept_from_outward r n item
accept r false n item = accept_from_inward r n item

-- why an item that comes over this link at this side is refused: no edge has the link, or its queue refuses the number
abbrev pub accept_refusal : Router → LinkId → Side → ℕ → Refusal
accept_refusal r link side n =
    if outward_has r link side then push_refusal r.in_queue n
    else if inward_has r link side then push_refusal r.out_queue n
    else Stranger

-- the terminal becomes a proxy
abbrev pub extend : Router → LinkEnd → Router
extend r link = rouse (record r { inward = Some (edge_of link) })

-- what goes with the item that moves the terminal
abbrev pub descriptor_of : Router → LinkId → Descriptor
descriptor_of r link = record { end = r.end; link = link; next_out = next_number r; next_in = r.in_queue.current }
