-- What always holds of the numbers of items: on each link they lie between the receiver's and the sender's, and below the link's length.
use Rattle.std.specs.Prelude.{◌≡◌, ◌<◌, ◌≤◌, ℕ, Bool, true, false, ◌||◌, nat_le, Option, Some, None, is_some, List}
use Rattle.ipcz_base.specs.declared.side.Side.{Side}
use Rattle.ipcz_base.specs.declared.side.Side.TheVariants.{B}
use Rattle.ipcz_base.specs.declared.link_id.LinkId.{LinkId}
use Rattle.ipcz_base.specs.declared.link_id.LinkId.TheVariants.{Central}
use Rattle.ipcz_base.specs.declared.link_end.LinkEnd.{LinkEnd}
use Rattle.ipcz_base.specs.declared.descriptor.Descriptor.{Descriptor}
use Rattle.ipcz_base.specs.declared.item.Item.{Item}
use Rattle.ipcz_base.specs.declared.message.Message.TheVariants as messages
use Rattle.ipcz_base.specs.Sides.{opposite}
use Rattle.ipcz_seq.specs.Queue.{Queue, item_at}
use Rattle.ipcz_router.specs.Router.{Router, inward_edge}
use Rattle.ipcz_world.specs.World.{World, router_at}
use Rattle.ipcz_world.specs.Each.{EachRouter}
use Rattle.ipcz_world.specs.Records.{Records, is_recorded, is_left, side_node, side_length, across_side}
use Rattle.ipcz_world.specs.Flows.{IsUnderWay, is_made_before}
use Rattle.ipcz_world.specs.Standing.{View, Awaited, Waiting, Standing, Gone, view, next_sent, taking_queue, may_have_sent, is_gone}
use Rattle.ipcz_world.specs.Standing.{is_awaited}
use Rattle.ipcz_world.specs.Bypasses.{inner_of}

-- an item is under way on a link toward a side
abbrev pub IsItemUnderWay : World → ℕ → ℕ → ℕ → LinkId → Side → ℕ → Item → List Descriptor → Type 0
IsItemUnderWay w from to i link s n item moves = IsUnderWay w from to i (messages.Item link s n item moves)

-- the items under way
pub record Items (w : World) (g : Records) : Type 0 where
  pub recorded : (from to i : ℕ) (link : LinkId) (s : Side) (n : ℕ) (item : Item) (moves : List Descriptor) →
      IsItemUnderWay w from to i link s n item moves → is_recorded w g link ≡ true
  pub sender : (from to i : ℕ) (link : LinkId) (s : Side) (n : ℕ) (item : Item) (moves : List Descriptor) →
      IsItemUnderWay w from to i link s n item moves → from ≡ side_node g link (opposite s)
  pub receiver : (from to i : ℕ) (link : LinkId) (s : Side) (n : ℕ) (item : Item) (moves : List Descriptor) →
      IsItemUnderWay w from to i link s n item moves → to ≡ side_node g link s
  -- below the length, if there is one
  pub below_length : (from to i : ℕ) (link : LinkId) (s : Side) (n : ℕ) (item : Item) (moves : List Descriptor) (length : ℕ) →
      IsItemUnderWay w from to i link s n item moves → side_length g link (opposite s) ≡ Some length → n < length
  -- sent already by a router that has stood there
  pub was_sent : (from to i : ℕ) (link : LinkId) (s : Side) (n : ℕ) (item : Item) (moves : List Descriptor) (u : ℕ) →
      IsItemUnderWay w from to i link s n item moves → next_sent link (opposite s) (view w g link (opposite s)) ≡ Some u → n < u
  pub by_sender : (from to i : ℕ) (link : LinkId) (s : Side) (n : ℕ) (item : Item) (moves : List Descriptor) →
      IsItemUnderWay w from to i link s n item moves → may_have_sent (view w g link (opposite s)) ≡ true
  pub sender_gone : (from to i : ℕ) (link : LinkId) (s : Side) (n : ℕ) (item : Item) (moves : List Descriptor) →
      IsItemUnderWay w from to i link s n item moves → is_gone (view w g link (opposite s)) ≡ true →
      (is_some (side_length g link (opposite s)) || is_left g link (opposite s)) ≡ true
  -- not yet passed at the receiver, who is there, or is made by a message before it
  pub not_passed : (from to i : ℕ) (link : LinkId) (s : Side) (n : ℕ) (item : Item) (moves : List Descriptor) (q : Queue Item) →
      IsItemUnderWay w from to i link s n item moves → taking_queue link s (view w g link s) ≡ Some q → q.current ≤ n
  pub behind : (from to i : ℕ) (link : LinkId) (s : Side) (n : ℕ) (item : Item) (moves : List Descriptor) →
      IsItemUnderWay w from to i link s n item moves → is_awaited (view w g link s) ≡ true → is_made_before w from to i link s ≡ true
  pub not_awaited_low : (from to i c : ℕ) (s : Side) (n : ℕ) (item : Item) (moves : List Descriptor) (o : ℕ) →
      IsItemUnderWay w from to i (Central c) s n item moves → (g.central c).router s ≡ None → (g.central c).born ≡ Some o →
      (g.bypass o).taken_at ≤ n
  pub receiver_there : (from to i : ℕ) (link : LinkId) (s : Side) (n : ℕ) (item : Item) (moves : List Descriptor) →
      IsItemUnderWay w from to i link s n item moves → is_gone (view w g link s) ≡ false

-- whether a number has come to a length
unfoldable pub has_passed : Option ℕ → ℕ → Bool
has_passed None n = false
has_passed (Some length) n = nat_le length n

-- what a receiver has read or has in its queue was sent over the link, or is from its length on
pub record Order (w : World) (g : Records) : Type 0 where
  pub current : (link : LinkId) (s : Side) (u : ℕ) (q : Queue Item) → is_recorded w g link ≡ true →
      next_sent link (opposite s) (view w g link (opposite s)) ≡ Some u → taking_queue link s (view w g link s) ≡ Some q →
      has_passed (side_length g link (opposite s)) u ≡ false → q.current ≤ u
  pub stored : (link : LinkId) (s : Side) (u : ℕ) (q : Queue Item) (n : ℕ) (item : Item) → is_recorded w g link ≡ true →
      next_sent link (opposite s) (view w g link (opposite s)) ≡ Some u → taking_queue link s (view w g link s) ≡ Some q →
      item_at q n ≡ Some item → has_passed (side_length g link (opposite s)) n ≡ false → n < u

-- a bypassed proxy has nothing from its lengths on, and has passed them if its part of a link is given up
pub record ProxyNumbers (w : World) (g : Records) : Type 0 where
  pub out_current : (o : ℕ) (r : Router) → router_at w (g.bypass o).proxy ≡ Some r → 2 ≤ (g.bypass o).stage →
      r.out_queue.current ≤ (g.bypass o).taken_at
  pub out_items : (o : ℕ) (r : Router) (n : ℕ) (item : Item) → router_at w (g.bypass o).proxy ≡ Some r → 2 ≤ (g.bypass o).stage →
      item_at r.out_queue n ≡ Some item → n < (g.bypass o).taken_at
  pub in_current : (o : ℕ) (r : Router) → router_at w (g.bypass o).proxy ≡ Some r → 3 ≤ (g.bypass o).stage →
      r.in_queue.current ≤ (g.bypass o).accepted_at
  pub in_items : (o : ℕ) (r : Router) (n : ℕ) (item : Item) → router_at w (g.bypass o).proxy ≡ Some r → 3 ≤ (g.bypass o).stage →
      item_at r.in_queue n ≡ Some item → n < (g.bypass o).accepted_at
  pub across_gone : (o : ℕ) (r : Router) → router_at w (g.bypass o).proxy ≡ Some r → 3 ≤ (g.bypass o).stage →
      is_gone (view w g (Central o) (across_side g o)) ≡ true → (g.bypass o).taken_at ≤ r.out_queue.current
  pub inner_gone : (o : ℕ) (r : Router) → router_at w (g.bypass o).proxy ≡ Some r → (g.bypass o).stage ≡ 5 →
      is_gone (view w g (inner_of g o) B) ≡ true → (g.bypass o).accepted_at ≤ r.in_queue.current
  pub out_finished : (o : ℕ) (r : Router) → router_at w (g.bypass o).proxy ≡ Some r → 4 ≤ (g.bypass o).stage → r.outward.decaying ≡ None →
      (g.bypass o).taken_at ≤ r.out_queue.current
  pub in_finished : (o : ℕ) (r : Router) → router_at w (g.bypass o).proxy ≡ Some r → 4 ≤ (g.bypass o).stage →
      (inward_edge r).decaying ≡ None → (g.bypass o).accepted_at ≤ r.in_queue.current

-- the router that stands in a view
unfoldable pub standing_router : View → Option Router
standing_router Awaited = None
standing_router (Waiting d) = None
standing_router (Standing r) = Some r
standing_router Gone = None

-- a router with a fresh and a decaying link has passed its own length, and over the fresh link comes only what is from the other length on
pub record HasFreshNumbers (w : World) (g : Records) (r : Router) : Type 0 where
  pub own : (p d : LinkEnd) (length : ℕ) → r.outward.primary ≡ Some p → r.outward.decaying ≡ Some d →
      r.outward.length_to ≡ Some length → length ≤ r.out_queue.current
  pub comes : (p d : LinkEnd) (length from to i n : ℕ) (item : Item) (moves : List Descriptor) → r.outward.primary ≡ Some p →
      r.outward.decaying ≡ Some d → side_length g d.link (opposite d.side) ≡ Some length →
      IsItemUnderWay w from to i p.link p.side n item moves → length ≤ n
  pub other : (q : Router) (p d : LinkEnd) (length : ℕ) → r.outward.primary ≡ Some p → r.outward.decaying ≡ Some d →
      side_length g d.link (opposite d.side) ≡ Some length → standing_router (view w g p.link (opposite p.side)) ≡ Some q →
      length ≤ q.out_queue.current

abbrev pub FreshNumbers : World → Records → Type 0
FreshNumbers w g = EachRouter w (λ k r. HasFreshNumbers w g r)
