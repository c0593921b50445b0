-- Where each end, each accepted item and each item's ends are.
use Rattle.std.specs.Prelude.{◌≡◌, ◌≢◌, ◌≤◌, ◌<◌, ℕ, suc, ◌+◌, true, false, cond, ◌&&◌, ◌||◌, nat_eq, Some, is_some, List, [], length, take, map, slice_get}
use Rattle.ipcz_base.specs.declared.side.Side.{Side}
use Rattle.ipcz_base.specs.declared.end.End.{End}
use Rattle.ipcz_base.specs.declared.link_id.LinkId.{LinkId}
use Rattle.ipcz_base.specs.declared.link_id.LinkId.TheVariants.{Central}
use Rattle.ipcz_base.specs.declared.descriptor.Descriptor.{Descriptor}
use Rattle.ipcz_base.specs.declared.item.Item.{Item}
use Rattle.ipcz_base.specs.declared.item.Item.TheVariants.{Parcel, Mark, Gone}
use Rattle.ipcz_base.specs.declared.message.Message.{Message}
use Rattle.ipcz_base.specs.declared.message.Message.TheVariants as messages
use Rattle.ipcz_base.specs.Ends.{opposite_end, same_end, has_end}
use Rattle.ipcz_base.specs.Limits.{last_number}
use Rattle.ipcz_seq.specs.Queue.{item_at}
use Rattle.ipcz_router.specs.Router.{Router, is_terminal, inward_edge, decays}
use Rattle.ipcz_world.specs.Structure.{is_begun_router}
use Rattle.ipcz_base.specs.declared.link_end.LinkEnd.{LinkEnd}
use Rattle.ipcz_base.specs.Ends.{end_at}
use Rattle.ipcz_base.specs.Sides.{opposite}
use Rattle.ipcz_router.specs.Calls.{next_number}
use Rattle.ipcz_base.specs.Items.{ends_in}
use Rattle.ipcz_node.specs.Node.{holds_end}
use Rattle.ipcz_world.specs.World.{World, Key, node_at, router_at}
use Rattle.ipcz_world.specs.Each.{EachRouter}
use Rattle.ipcz_world.specs.Books.{Books, read, is_closed, is_retired}
use Rattle.ipcz_world.specs.Records.{Records, At, Retired, routes_of, is_linked, is_begun, is_recorded, is_left, across_side, side_end, terminal_node, is_nowhere}
use Rattle.ipcz_base.specs.Totals.{total_below}
use Rattle.ipcz_world.specs.Flows.{IsUnderWay, moves_of}
use Rattle.ipcz_world.specs.Places.{in_places, at_end, names_end, times, unread_weight}
use Rattle.ipcz_world.specs.Standing.{key_passes}

-- a router's end was opened, and a terminal is that of its end
pub record HasTerminal (g : Records) (k : Key) (r : Router) : Type 0 where
  pub terminal : is_terminal r ≡ true → g.terminal r.end ≡ At k
  pub opened : is_nowhere (g.terminal r.end) ≡ false

-- each end of an opened pair has one terminal, or one that is to be made
pub record Terminals (w : World) (g : Records) : Type 0 where
  pub each : EachRouter w (HasTerminal g)
  pub stands : (e : End) (k : Key) → g.terminal e ≡ At k → key_passes w (Some k) (λ r. is_terminal r && same_end r.end e) ≡ true
  pub link_opened : (link : LinkId) (s : Side) → is_recorded w g link ≡ true → is_nowhere (g.terminal (side_end g link s)) ≡ false
  pub unopened : (e : End) → is_linked (g.owner e.pair) ≡ false → is_nowhere (g.terminal e) ≡ true
  pub other_pair : (e : End) → is_linked (g.owner e.pair) ≡ true → nat_eq (g.central e.pair).pair e.pair ≡ false →
      is_nowhere (g.terminal e) ≡ true
  pub both : (e : End) → is_nowhere (g.terminal (opposite_end e)) ≡ is_nowhere (g.terminal e)

-- an end in a queue of a router has its terminal at the router's node
pub record HasEndsHere (g : Records) (k : Key) (r : Router) : Type 0 where
  pub out : (n : ℕ) (item : Item) (e : End) → item_at r.out_queue n ≡ Some item → has_end e (ends_in item) ≡ true →
      terminal_node (g.terminal e) ≡ Some k.node
  pub inn : (n : ℕ) (item : Item) (e : End) → item_at r.in_queue n ≡ Some item → has_end e (ends_in item) ≡ true →
      terminal_node (g.terminal e) ≡ Some k.node

-- an end that is held or pending at a node, or under way within one, has its terminal at this node, as has each in its routers' queues
pub record EndPlaces (w : World) (g : Records) : Type 0 where
  pub held : (n : ℕ) (e : End) → holds_end (node_at w n) e ≡ true → terminal_node (g.terminal e) ≡ Some n
  pub pending : (n : ℕ) (e : End) → has_end e (node_at w n).pending ≡ true → terminal_node (g.terminal e) ≡ Some n
  pub each : EachRouter w (HasEndsHere g)
  pub within : (n i : ℕ) (link : LinkId) (s : Side) (number : ℕ) (item : Item) (moves : List Descriptor) (e : End) →
      IsUnderWay w n n i (messages.Item link s number item moves) → has_end e (ends_in item) ≡ true →
      terminal_node (g.terminal e) ≡ Some n

-- what the books have to do with each other and with the routers' flags
pub record BooksKept (w : World) (b : Books) (g : Records) : Type 0 where
  pub own_pair : (e d : End) (n : ℕ) (item : Item) → slice_get (b.put e) n ≡ Some item → has_end d (ends_in item) ≡ true → d.pair ≢ e.pair
  -- the mark is last, or Gone comes right after it and is last
  pub mark_last : (e : End) (n : ℕ) → slice_get (b.put e) n ≡ Some Mark → suc n + cond (is_retired b e) 1 0 ≡ length (b.put e)
  pub gone_last : (e : End) (n : ℕ) → slice_get (b.put e) n ≡ Some Gone → suc n ≡ length (b.put e)
  pub retired_closed : (e : End) → is_retired b e ≡ true → is_closed b e ≡ true
  pub numbers : (e : End) → length (b.put e) ≤ last_number + cond (is_closed b e) 1 0 + cond (is_retired b e) 1 0
  pub mark_seen : (k : Key) (r : Router) → router_at w k ≡ Some r → r.mark_seen ≡ true → is_closed b (opposite_end r.end) ≡ true

-- what a sink that has retired leaves behind: its end has no terminal, and has read all that its peer put, the mark too; its peer's sink
-- leaves when it has read Gone; and its pair's one live link is left by it, so that no bypass begins there any more
pub record RetiredEnds (b : Books) (g : Records) : Type 0 where
  pub retired : (e : End) → is_retired b e ≡ true → g.terminal e ≡ Retired
  pub peer_closed : (e : End) → is_retired b e ≡ true → is_closed b (opposite_end e) ≡ true
  pub peer_stays : (e : End) → is_retired b e ≡ true → is_retired b (opposite_end e) ≡ false
  pub all_read : (e : End) → is_retired b e ≡ true → read b e ≡ length (b.put (opposite_end e))
  pub gone_read : (e : End) → g.terminal e ≡ Retired → is_retired b e ≡ false →
      (is_retired b (opposite_end e) ≡ true) × (read b e ≡ length (b.put (opposite_end e)))
  -- no bypass of the pair has messages under way
  pub no_bypass : (o : ℕ) (s : Side) → 1 ≤ (g.bypass o).stage → (g.bypass o).stage ≤ 4 →
      is_retired b (end_at (g.central o).pair s) ≡ false
  pub left : (e : End) (i : ℕ) → is_retired b e ≡ true → is_linked (g.owner i) ≡ true → is_begun (g.bypass i) ≡ false →
      (g.central i).pair ≡ e.pair → is_left g (Central i) e.side ≡ true
  pub left_of : (link : LinkId) (s : Side) → is_left g link s ≡ true →
      (is_retired b (side_end g link s) || is_retired b (opposite_end (side_end g link s))) ≡ true
  -- what a router across has accepted under is at most what its end had put before Gone
  pub accepted : (o : ℕ) → 3 ≤ (g.bypass o).stage →
      (g.bypass o).accepted_at + cond (is_retired b (end_at (g.central o).pair (across_side g o))) 1 0 ≤
      length (b.put (end_at (g.central o).pair (across_side g o)))

-- how the routers of a pair stand to Gone and to the marks
pub record Gones (w : World) (b : Books) (g : Records) : Type 0 where
  -- a proxy that has sent Gone inward is one whose in queue has passed it
  pub sent : (k : Key) (r : Router) → router_at w k ≡ Some r → r.gone_sent ≡ true →
      (is_retired b (opposite_end r.end) ≡ true) × (r.in_queue.current ≡ length (b.put (opposite_end r.end)))
  pub sent_back : (k : Key) (r : Router) → router_at w k ≡ Some r → is_terminal r ≡ false → is_some (inward_edge r).primary ≡ true →
      is_retired b (opposite_end r.end) ≡ true → r.in_queue.current ≡ length (b.put (opposite_end r.end)) → r.gone_sent ≡ true
  -- the router across a side that was left belongs to the peer of one that has retired
  pub left_primary : (k : Key) (r : Router) (e : LinkEnd) → router_at w k ≡ Some r → r.outward.primary ≡ Some e →
      is_left g e.link (opposite e.side) ≡ true → is_retired b (opposite_end r.end) ≡ true
  -- and if the side inward of a proxy was left, the proxy has passed all that the peer put
  pub left_inner : (k : Key) (r : Router) (e : LinkEnd) → router_at w k ≡ Some r → (inward_edge r).primary ≡ Some e →
      is_left g e.link (opposite e.side) ≡ true → length (b.put (opposite_end r.end)) ≤ r.in_queue.current
  -- no router has passed more than what the ends have put
  pub out_put : (k : Key) (r : Router) → router_at w k ≡ Some r → r.out_queue.current ≤ length (b.put r.end)
  pub in_put : (k : Key) (r : Router) → router_at w k ≡ Some r → r.in_queue.current ≤ length (b.put (opposite_end r.end))
  -- no router of a pair of whose ends one has retired has a decaying link, but a proxy that has begun
  pub still : (k : Key) (r : Router) (s : Side) → router_at w k ≡ Some r → is_begun_router r ≡ false →
      is_retired b (end_at r.end.pair s) ≡ true → decays r ≡ false
  -- a sink has dropped the mark of its peer exactly if it has read it
  pub dropped : (k : Key) (r : Router) (n : ℕ) → router_at w k ≡ Some r → is_terminal r ≡ true →
      slice_get (b.put (opposite_end r.end)) n ≡ Some Mark → r.mark_dropped ≡ true → n < r.in_queue.current
  pub dropped_closed : (k : Key) (r : Router) → router_at w k ≡ Some r → r.mark_dropped ≡ true → is_closed b (opposite_end r.end) ≡ true
  pub dropped_back : (k : Key) (r : Router) (n : ℕ) → router_at w k ≡ Some r → is_terminal r ≡ true →
      slice_get (b.put (opposite_end r.end)) n ≡ Some Mark → n < r.in_queue.current → r.closed ≡ true → r.mark_dropped ≡ true

-- each accepted item that is neither got nor discarded stands in exactly one place, and what was got is a prefix of what was put
pub record Conserved (w : World) (b : Books) (g : Records) : Type 0 where
  pub exact : (e : End) (h : ℕ → Item → ℕ) → in_places (at_end e h) (routes_of g) w ≡ unread_weight h b e
  pub read_put : (e : End) → read b (opposite_end e) ≤ length (b.put e)
  pub prefix : (e : End) → take (length (b.got (opposite_end e))) (b.put e) ≡ map Parcel (b.got (opposite_end e))
  pub gone_closed : (e : End) → is_closed b e ≡ false → b.gone e ≡ 0
  pub reach : (k : Key) (r : Router) → router_at w k ≡ Some r → is_terminal r ≡ true → next_number r ≡ length (b.put r.end)
  pub current : (k : Key) (r : Router) → router_at w k ≡ Some r → is_terminal r ≡ true → r.in_queue.current ≡ read b r.end
  pub sink : (k : Key) (r : Router) → router_at w k ≡ Some r → is_terminal r ≡ true → r.closed ≡ is_closed b r.end
  pub move_out : (from to i j : ℕ) (m : Message) (d : Descriptor) → IsUnderWay w from to i m → slice_get (moves_of m) j ≡ Some d →
      d.next_out ≡ length (b.put d.end)
  pub move_in : (from to i j : ℕ) (m : Message) (d : Descriptor) → IsUnderWay w from to i m → slice_get (moves_of m) j ≡ Some d →
      d.next_in ≡ read b d.end
  pub move_open : (from to i j : ℕ) (m : Message) (d : Descriptor) → IsUnderWay w from to i m → slice_get (moves_of m) j ≡ Some d →
      is_closed b d.end ≡ false
  pub unopened_put : (e : End) → is_nowhere (g.terminal e) ≡ true → b.put e ≡ []
  pub unopened_got : (e : End) → is_nowhere (g.terminal e) ≡ true → b.got e ≡ []

-- how often callers hold an end, and how often it is pending
abbrev pub times_held : World → End → ℕ
times_held w e = total_below w.count (λ n. cond (holds_end (node_at w n) e) 1 0 + times e (node_at w n).pending)

-- once, if an end was closed
abbrev pub times_closed : Books → End → ℕ
times_closed b e = cond (is_closed b e) 1 0

-- each end of an opened pair is held by callers, in a parcel, pending or closed: one of these, once
pub record HeldOnce (w : World) (b : Books) (g : Records) : Type 0 where
  pub once : (e : End) →
      in_places (names_end e) (routes_of g) w + (times_held w e + times_closed b e) ≡ cond (is_nowhere (g.terminal e)) 0 1
  pub moves_in_parcel : (from to i : ℕ) (link : LinkId) (s : Side) (n : ℕ) (item : Item) (moves : List Descriptor) (j : ℕ) (d : Descriptor)
      → IsUnderWay w from to i (messages.Item link s n item moves) →
      slice_get moves j ≡ Some d → has_end d.end (ends_in item) ≡ true
