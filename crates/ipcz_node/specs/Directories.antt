-- Where the routers of a node are found: by the links that they have, by the ends whose open terminals they are, by their flags, and by what a
-- get gives there. (ipcz: a node link finds a router by its sublink. The other three are this project's own.)
use Rattle.std.specs.Prelude.{◌≡◌, ◌==◌, ℕ, ◌+◌, ◌≤◌, ◌<◌, ◌&&◌, not, Bool, true, false, if◌then◌else◌, Some, List, length}
use Rattle.std.specs.Option.{option_map_or}
use Rattle.std.specs.Ordering.{nat_cmp}
use Rattle.std.specs.FinMap.{FinMap, get}
use Rattle.ipcz_base.specs.declared.side.Side.{Side}
use Rattle.ipcz_base.specs.declared.end.End.{End}
use Rattle.ipcz_base.specs.declared.link_id.LinkId.{LinkId}
use Rattle.ipcz_base.specs.Totals.{total}
use Rattle.ipcz_base.specs.Orders.{end_cmp}
use Rattle.ipcz_base.specs.declared.item.Item.{Item}
use Rattle.ipcz_base.specs.Items.{ends_in}
use Rattle.ipcz_router.specs.declared.act.RouterAct.{RouterAct}
use Rattle.ipcz_router.specs.declared.act.RouterAct.TheVariants.{SendIn, Discard, FinishOut, FinishIn, Leave, Begin}
use Rattle.ipcz_router.specs.declared.act.Applied.{Applied}
use Rattle.ipcz_router.specs.declared.act.Applied.TheVariants.{Nothing, Sent, Message, Discarded}
use Rattle.ipcz_router.specs.Calls.{has_place_for}
use Rattle.ipcz_router.specs.Router.{Router, router_has}
use Rattle.ipcz_node.specs.Node.{is_terminal_of}
use Rattle.ipcz_node.specs.Finding.{is_ready}
use Rattle.ipcz_base.specs.Ends.{same_end}
use Rattle.ipcz_router.specs.declared.filing.Filing.{Filing}
use Rattle.ipcz_router.specs.Filings.{is_under, link_gain}
use Rattle.ipcz_node.specs.declared.link_place.LinkPlace.{LinkPlace}
use Rattle.ipcz_node.specs.LinkPlaces.{place_cmp, link_place}
use Rattle.ipcz_node.specs.SortedSets.{RoomySet, has}
use Rattle.ipcz_node.specs.Indexes.{is_filed}

-- whether the router of a serial passes a test
abbrev pub passes : (Router → Bool) → FinMap nat_cmp Router → ℕ → Bool
passes test routers serial = option_map_or test (get routers serial) false

-- each router is filed under exactly its links, the end that it is the open terminal of, and its flag
pub record AreFiled (routers : FinMap nat_cmp Router) (links : List (LinkPlace × ℕ)) (terminals : List (End × ℕ))
    (flagged : List ℕ) : Type 0 where
  pub by_link : (link : LinkId) (side : Side) (serial : ℕ) → is_filed place_cmp links (link_place link side) serial ≡
      passes (λ r. router_has r link side) routers serial
  pub by_end : (end : End) (serial : ℕ) → is_filed end_cmp terminals end serial ≡ passes (is_terminal_of end) routers serial
  pub by_flag : (serial : ℕ) → has nat_cmp flagged serial ≡ passes (λ r. r.flagged) routers serial

-- 1 for a router that isn't flagged, since its flag may yet be set; else 0
abbrev pub asleep : Router → ℕ
asleep r = if r.flagged then 0 else 1

-- the vectors have room for so many routers and so many links more, and the one of the flags for each router that isn't flagged
pub record HaveRoom (m : FinMap nat_cmp Router) (room more in_routers in_links in_terminals in_flags : ℕ) : Type 0 where
  pub routers : room ≤ in_routers
  pub links : room + more ≤ in_links
  pub terminals : room ≤ in_terminals
  pub flags : room + total (λ serial r. asleep r) m ≤ in_flags

-- 1 for a router that isn't ready, since it may yet become so; else 0
abbrev pub unready : Router → ℕ
unready r = if is_ready r then 0 else 1

-- the ready routers are filed by their serials, but for the one of this serial, which may be ready or not; and there is room to file each
-- other one, and so many routers more
pub record AreReady (m : FinMap nat_cmp Router) (latest : ℕ) (others : RoomySet ℕ) (more : ℕ) : Type 0 where
  pub by_ready : (serial : ℕ) → has nat_cmp others.members serial ≡ (not (serial == latest) && passes is_ready m serial)
  pub room : more + (total (λ serial r. unready r) m + (if passes is_ready m latest then 1 else 0)) ≤ others.room

-- how many ends wait in the in queue of a router
abbrev pub ends_inside : Router → ℕ
ends_inside r = total (λ n item. length (ends_in item)) r.in_queue.items

-- no more ends than so many wait in the in queues, and there is room to hold as many and so many more
pub record CanHold (m : FinMap nat_cmp Router) (ends more in_held : ℕ) : Type 0 where
  pub counted : total (λ serial r. ends_inside r) m ≤ ends
  pub room : ends + more ≤ in_held

-- no router was told that no word is left, unless some may have been
abbrev pub MayBeDry : Bool → FinMap nat_cmp Router → Type 0
MayBeDry some_dry m = some_dry ≡ false → (serial : ℕ) (r : Router) → get m serial ≡ Some r → r.dry ≡ false

-- how many ends come into the in queue with an item, if it comes from outward and has its place
abbrev pub ends_brought : Router → Bool → ℕ → Item → ℕ
ends_brought r from_outward n item = if from_outward && has_place_for r from_outward n then length (ends_in item) else 0

-- whether an act takes its item out of the in queue
unfoldable pub takes_inside : RouterAct → Bool
takes_inside SendIn = true
takes_inside Discard = true
takes_inside other = false

-- whether an act keeps the links of its router, so that only its flag is to be filed anew
unfoldable pub keeps_links : RouterAct → Bool
keeps_links FinishOut = false
keeps_links FinishIn = false
keeps_links Leave = false
keeps_links Begin = false
keeps_links other = true

-- how many ends are in what an act gives to the node
unfoldable pub ends_given : Applied → ℕ
ends_given Nothing = 0
ends_given (Sent link n item) = length (ends_in item)
ends_given (Message to message) = 0
ends_given (Discarded n item) = length (ends_in item)

-- how many ends an act takes out of the in queue
abbrev pub ends_taken : RouterAct → Applied → ℕ
ends_taken act given = if takes_inside act then ends_given given else 0

-- what is filed under a serial is what the filing says, and there is room for another filing, which is of no terminal that the first isn't
-- of
pub record CanRefile (links : RoomySet (LinkPlace × ℕ)) (terminals : RoomySet (End × ℕ)) (flagged : RoomySet ℕ) (serial : ℕ)
    (was is : Filing) : Type 0 where
  pub by_link : (link : LinkId) (side : Side) → is_filed place_cmp links.members (link_place link side) serial ≡ is_under was link side
  pub by_end : (end : End) → is_filed end_cmp terminals.members end serial ≡ (was.is_open && same_end was.end end)
  pub by_flag : has nat_cmp flagged.members serial ≡ was.flagged
  pub link_room : link_gain was is ≤ links.room
  pub flag_room : was.flagged ≡ false → 0 < flagged.room
  pub closes : was.is_open ≡ false → is.is_open ≡ false
  pub stays : is.end ≡ was.end

-- what is filed under a serial is what the second filing says, and nothing else has changed
pub record AreRefiled (links new_links : RoomySet (LinkPlace × ℕ)) (terminals new_terminals : RoomySet (End × ℕ))
    (flagged new_flagged : RoomySet ℕ) (serial : ℕ) (was is : Filing) : Type 0 where
  pub by_link : (link : LinkId) (side : Side) (s : ℕ) → is_filed place_cmp new_links.members (link_place link side) s ≡
      (if serial == s then is_under is link side else is_filed place_cmp links.members (link_place link side) s)
  pub by_end : (end : End) (s : ℕ) → is_filed end_cmp new_terminals.members end s ≡
      (if serial == s then is.is_open && same_end is.end end else is_filed end_cmp terminals.members end s)
  pub by_flag : (s : ℕ) → has nat_cmp new_flagged.members s ≡ (if serial == s then is.flagged else has nat_cmp flagged.members s)
  pub link_room : links.room ≤ new_links.room + link_gain was is
  pub end_room : terminals.room ≤ new_terminals.room
  pub flag_room : flagged.room + (if was.flagged then 1 else 0) ≤ new_flagged.room + (if is.flagged then 1 else 0)
