-- The two routers of a lone parcel: the one that sends it and rests then, and the one that takes it and rests.
use Rattle.std.specs.Prelude.{◌≡◌, ℕ, Bool, true, false, not, ◌&&◌, ◌||◌, nat_eq, if◌then◌else◌, is_none, Option, None, length}
use Rattle.std.specs.FinMap.{len}
use Rattle.ipcz_base.specs.declared.item.Item.{Item}
use Rattle.ipcz_base.specs.declared.side.Side.{Side}
use Rattle.ipcz_base.specs.declared.link_id.LinkId.{LinkId}
use Rattle.ipcz_base.specs.declared.link_end.LinkEnd.{LinkEnd}
use Rattle.ipcz_base.specs.Items.{ends_in}
use Rattle.ipcz_edge.specs.Edge.{edge_decays}
use Rattle.ipcz_seq.specs.Queue.{current_item}
use Rattle.ipcz_router.specs.Router.{Router, is_terminal, is_on_central, outward_has}
use Rattle.ipcz_router.specs.Calls.{has_place_for, accept_from_outward}
use Rattle.ipcz_router.specs.Acts.{item_passes, rest}

-- whether an open terminal where nothing decays has neither to mark its side nor to wake the other
abbrev pub is_settled : Router → Bool
is_settled r =
    is_terminal r && (not r.closed && (not (edge_decays r.outward) && ((r.marked || not (is_on_central r)) && not r.wake_owed)))

-- whether such a terminal has nothing to send either: it only rests, whatever has come into its in queue
abbrev pub is_still : Router → Bool
is_still r = is_settled r && is_none (current_item r.out_queue)

-- the link of the only item in the out queue, if it leaves next, carries no ends, and is all that such a terminal has to send
abbrev pub last_link : Router → Option LinkEnd
last_link r =
    if nat_eq (len r.out_queue.items) 1 && (is_settled r && item_passes (λ item. nat_eq (length (ends_in item)) 0) (current_item r.out_queue))
    then r.outward.primary
    else None

-- the link of the item that such a terminal sends next, if it carries no ends
abbrev pub next_link : Router → Option LinkEnd
next_link r =
    if is_settled r && item_passes (λ item. nat_eq (length (ends_in item)) 0) (current_item r.out_queue) then r.outward.primary else None

-- whether an item of a number that comes over a link at a side is all that the router has to do, and has its place
abbrev pub takes_last : Router → LinkId → Side → ℕ → Bool
takes_last r link side n = not r.flagged && (is_still r && (outward_has r link side && has_place_for r true n))

-- the router, which rests and isn't flagged, takes an item of a number that comes over its outward link at its side, and rests
pub record TakesLast (r : Router) (link : LinkId) (side : Side) (n : ℕ) (item : Item) (v : Router) : Type 0 where
  pub still : is_still r ≡ true
  pub unflagged : r.flagged ≡ false
  pub outward : outward_has r link side ≡ true
  pub place : has_place_for r true n ≡ true
  pub after : v ≡ rest (accept_from_outward r n item)
