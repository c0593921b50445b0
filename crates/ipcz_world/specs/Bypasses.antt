-- What always holds of bypasses under way and of the messages that carry them.
use Rattle.std.specs.Prelude.{◌≡◌, ◌≢◌, ◌≤◌, ℕ, Bool, true, false, cond, not, nat_eq, Option, Some, None, is_some, option_map, map, List}
use Rattle.std.specs.Prelude.{[], slice_get}
use Rattle.ipcz_base.specs.declared.side.Side.{Side}
use Rattle.ipcz_base.specs.declared.side.Side.TheVariants.{A, B}
use Rattle.ipcz_base.specs.declared.end.End.{End}
use Rattle.ipcz_base.specs.declared.link_id.LinkId.{LinkId}
use Rattle.ipcz_base.specs.declared.link_id.LinkId.TheVariants.{Central}
use Rattle.ipcz_base.specs.declared.descriptor.Descriptor.{Descriptor}
use Rattle.ipcz_base.specs.declared.item.Item.{Item}
use Rattle.ipcz_base.specs.declared.message.Message.{Message}
use Rattle.ipcz_base.specs.declared.message.Message.TheVariants as messages
use Rattle.ipcz_base.specs.Sides.{opposite}
use Rattle.ipcz_base.specs.Links.{is_central}
use Rattle.ipcz_router.specs.Router.{Router}
use Rattle.ipcz_base.specs.Items.{ends_in}
use Rattle.ipcz_world.specs.World.{World, Key, router_at}
use Rattle.ipcz_world.specs.Records.{Records, Fresh, Linked, Terminal, Nowhere, At, Moving, Retired, is_linked, is_begun, is_recorded}
use Rattle.ipcz_world.specs.Records.{inner_link, side_node, side_router, side_end, bypass_of, proxy_side, across_side, terminal_descriptor}
use Rattle.ipcz_base.specs.Totals.{total_list}
use Rattle.ipcz_world.specs.Flows.{IsUnderWay, is_made_before, under_way, of_end, moves_of}
use Rattle.ipcz_world.specs.Standing.{key_passes, has_primary, has_decaying, has_inward_decaying}
use Rattle.ipcz_world.specs.Structure.{is_begun_router}

-- the inner link of a bypass
abbrev pub inner_of : Records → ℕ → LinkId
inner_of g o = inner_link (g.bypass o).inner

-- the fresh link of a bypass
abbrev pub fresh_of : Records → ℕ → LinkId
fresh_of g o = Central (g.bypass o).fresh

-- what the record of a bypass has to do with those of its links
pub record IsBypassRecorded (w : World) (g : Records) (o : ℕ) : Type 0 where
  pub stage : (g.bypass o).stage ≤ 5
  pub old : is_begun (g.bypass o) ≡ true → is_linked (g.owner o) ≡ true
  pub inner : is_begun (g.bypass o) ≡ true → is_recorded w g (inner_of g o) ≡ true
  pub inner_by : is_begun (g.bypass o) ≡ true → (g.peripheral (g.bypass o).inner).by ≡ Some o
  pub pair : is_begun (g.bypass o) ≡ true → (g.peripheral (g.bypass o).inner).end.pair ≡ (g.central o).pair
  pub proxy_old : is_begun (g.bypass o) ≡ true → side_router g (Central o) (proxy_side g o) ≡ Some (g.bypass o).proxy
  pub proxy_inner : is_begun (g.bypass o) ≡ true → side_router g (inner_of g o) A ≡ Some (g.bypass o).proxy
  pub across : is_begun (g.bypass o) ≡ true → is_some (side_router g (Central o) (across_side g o)) ≡ true
  pub fresh : (g.bypass o).stage ≡ 1 → g.owner (g.bypass o).fresh ≡ Fresh o
  pub fresh_linked : 2 ≤ (g.bypass o).stage → g.owner (g.bypass o).fresh ≡ Linked
  pub fresh_born : 2 ≤ (g.bypass o).stage → (g.central (g.bypass o).fresh).born ≡ Some o
  pub fresh_pair : 2 ≤ (g.bypass o).stage → (g.central (g.bypass o).fresh).pair ≡ (g.central o).pair
  pub inner_known : 2 ≤ (g.bypass o).stage → is_some (side_router g (inner_of g o) B) ≡ true
  pub fresh_inner : 2 ≤ (g.bypass o).stage → side_router g (fresh_of g o) (proxy_side g o) ≡ side_router g (inner_of g o) B
  pub fresh_inner_node : 2 ≤ (g.bypass o).stage → side_node g (fresh_of g o) (proxy_side g o) ≡ side_node g (inner_of g o) B
  pub fresh_across_node : 2 ≤ (g.bypass o).stage →
      side_node g (fresh_of g o) (across_side g o) ≡ side_node g (Central o) (across_side g o)
  pub fresh_awaited : (g.bypass o).stage ≡ 2 → side_router g (fresh_of g o) (across_side g o) ≡ None
  pub fresh_across : 3 ≤ (g.bypass o).stage →
      side_router g (fresh_of g o) (across_side g o) ≡ side_router g (Central o) (across_side g o)
  pub born_fresh : (i : ℕ) → is_linked (g.owner i) ≡ true → (g.central i).born ≡ Some o → (g.bypass o).fresh ≡ i
  pub born_stage : (i : ℕ) → is_linked (g.owner i) ≡ true → (g.central i).born ≡ Some o → 2 ≤ (g.bypass o).stage

abbrev pub BypassRecords : World → Records → Type 0
BypassRecords w g = (o : ℕ) → IsBypassRecorded w g o

-- of the links of one pair at most one is live, which no bypass takes away; if a bypass has begun and its fresh link isn't taken yet, none
-- is, and it is the only such bypass of its pair
pub record LiveLinks (g : Records) : Type 0 where
  pub one_live : (i j : ℕ) → is_linked (g.owner i) ≡ true → is_linked (g.owner j) ≡ true → (g.central i).pair ≡ (g.central j).pair →
      is_begun (g.bypass i) ≡ false → is_begun (g.bypass j) ≡ false → i ≡ j
  pub none_live : (o i : ℕ) → (g.bypass o).stage ≡ 1 → is_linked (g.owner i) ≡ true → (g.central i).pair ≡ (g.central o).pair →
      is_begun (g.bypass i) ≡ true
  pub one_begun : (o p : ℕ) → (g.bypass o).stage ≡ 1 → (g.bypass p).stage ≡ 1 → (g.central o).pair ≡ (g.central p).pair → o ≡ p

-- who stands where, by how far a bypass is
pub record HasStage (w : World) (g : Records) (o : ℕ) : Type 0 where
  pub proxy_old : is_begun (g.bypass o) ≡ true → (g.bypass o).stage ≤ 3 →
      key_passes w (Some (g.bypass o).proxy) (has_decaying (Central o) (proxy_side g o)) ≡ true
  pub proxy_inner : is_begun (g.bypass o) ≡ true → (g.bypass o).stage ≤ 3 →
      key_passes w (Some (g.bypass o).proxy) (has_inward_decaying (inner_of g o) A) ≡ true
  pub proxy_begun : (r : Router) → is_begun (g.bypass o) ≡ true → router_at w (g.bypass o).proxy ≡ Some r → is_begun_router r ≡ true
  pub proxy_end : (r : Router) → is_begun (g.bypass o) ≡ true → router_at w (g.bypass o).proxy ≡ Some r →
      r.end ≡ side_end g (inner_of g o) A
  pub across_old : is_begun (g.bypass o) ≡ true → (g.bypass o).stage ≤ 2 →
      key_passes w (side_router g (Central o) (across_side g o)) (has_primary (Central o) (across_side g o)) ≡ true
  pub across_marked : is_begun (g.bypass o) ≡ true → (g.bypass o).stage ≤ 2 →
      key_passes w (side_router g (Central o) (across_side g o)) (λ r. r.marked) ≡ true
  pub across_free : is_begun (g.bypass o) ≡ true → (g.bypass o).stage ≤ 2 →
      key_passes w (side_router g (Central o) (across_side g o)) (λ r. not r.holds) ≡ true
  pub across_fresh : 3 ≤ (g.bypass o).stage → (g.bypass o).stage ≤ 4 →
      key_passes w (side_router g (fresh_of g o) (across_side g o)) (has_primary (fresh_of g o) (across_side g o)) ≡ true
  pub inner_primary : (k : Key) → (g.bypass o).stage ≡ 1 → side_router g (inner_of g o) B ≡ Some k →
      key_passes w (Some k) (has_primary (inner_of g o) B) ≡ true
  pub inner_decaying : 2 ≤ (g.bypass o).stage → (g.bypass o).stage ≤ 4 →
      key_passes w (side_router g (inner_of g o) B) (has_decaying (inner_of g o) B) ≡ true

abbrev pub Stages : World → Records → Type 0
Stages w g = (o : ℕ) → HasStage w g o

-- whether a link is taken away by this bypass
abbrev pub is_by : Records → LinkId → ℕ → Bool
is_by g link o = names (bypass_of g link)
  where
    names : Option ℕ → Bool
    names None = false
    names (Some p) = nat_eq p o

-- what the messages of a bypass weigh
unfoldable pub of_bypass : Records → ℕ → (Message → ℕ) → Message → ℕ
of_bypass g o h (messages.Item link side n item moves) = 0
of_bypass g o h (messages.BypassPeer link side old target fresh) =
    cond (nat_eq old o) (h (messages.BypassPeer link side old target fresh)) 0
of_bypass g o h (messages.AcceptBypass old side fresh length) = cond (nat_eq old o) (h (messages.AcceptBypass old side fresh length)) 0
of_bypass g o h (messages.StopProxying side old in_length out_length) =
    cond (nat_eq old o) (h (messages.StopProxying side old in_length out_length)) 0
of_bypass g o h (messages.ProxyWillStop link side in_length) = cond (is_by g link o) (h (messages.ProxyWillStop link side in_length)) 0
of_bypass g o h (messages.Flush link side) = 0

-- what tells the router inward that a bypass begins
abbrev pub peer_of : Records → ℕ → Message
peer_of g o = messages.BypassPeer (inner_of g o) B o (side_node g (Central o) (across_side g o)) (g.bypass o).fresh

-- what tells the router across
abbrev pub accept_of : Records → ℕ → Message
accept_of g o = messages.AcceptBypass o (across_side g o) (g.bypass o).fresh (g.bypass o).taken_at

-- what tells the proxy
abbrev pub stop_of : Records → ℕ → Message
stop_of g o = messages.StopProxying (proxy_side g o) o (g.bypass o).accepted_at (g.bypass o).taken_at

-- what tells the router inward that the proxy will stop
abbrev pub will_stop_of : Records → ℕ → Message
will_stop_of g o = messages.ProxyWillStop (inner_of g o) B (g.bypass o).accepted_at

-- what the one message of a bypass under way weighs, from its sender to its receiver
unfoldable pub control_weight : Records → (ℕ → ℕ → Message → ℕ) → ℕ → ℕ
control_weight g h o =
    cond (nat_eq (g.bypass o).stage 1) (h (g.bypass o).proxy.node (side_node g (inner_of g o) B) (peer_of g o))
    (cond (nat_eq (g.bypass o).stage 2) (h (side_node g (inner_of g o) B) (side_node g (Central o) (across_side g o)) (accept_of g o))
    (cond (nat_eq (g.bypass o).stage 3) (h (side_node g (Central o) (across_side g o)) (g.bypass o).proxy.node (stop_of g o))
    (cond (nat_eq (g.bypass o).stage 4) (h (g.bypass o).proxy.node (side_node g (inner_of g o) B) (will_stop_of g o)) 0)))

-- a bypass has the one message under way that its stage expects, and other messages name links as their records do
pub record Controls (w : World) (g : Records) : Type 0 where
  pub control : (o : ℕ) (h : ℕ → ℕ → Message → ℕ) → under_way (λ from to. of_bypass g o (h from to)) w ≡ control_weight g h o
  pub will_stop : (from to i : ℕ) (link : LinkId) (s : Side) (n : ℕ) → IsUnderWay w from to i (messages.ProxyWillStop link s n) →
      is_some (bypass_of g link) ≡ true
  pub behind : (from to i : ℕ) (link : LinkId) (s : Side) (old target fresh : ℕ) →
      IsUnderWay w from to i (messages.BypassPeer link s old target fresh) → side_router g link s ≡ None →
      is_made_before w from to i link s ≡ true
  pub flush_central : (from to i : ℕ) (link : LinkId) (s : Side) → IsUnderWay w from to i (messages.Flush link s) → is_central link ≡ true
  pub flush_recorded : (from to i : ℕ) (link : LinkId) (s : Side) → IsUnderWay w from to i (messages.Flush link s) →
      is_recorded w g link ≡ true
  pub flush_to : (from to i : ℕ) (link : LinkId) (s : Side) → IsUnderWay w from to i (messages.Flush link s) → to ≡ side_node g link s
  pub flush_from : (from to i : ℕ) (link : LinkId) (s : Side) → IsUnderWay w from to i (messages.Flush link s) →
      from ≡ side_node g link (opposite s)

-- what the descriptor of an end weighs, if one is under way
unfoldable pub move_weight : (Descriptor → ℕ) → Terminal → ℕ
move_weight h Nowhere = 0
move_weight h (At k) = 0
move_weight h (Moving d) = h d
move_weight h Retired = 0

-- the link of the descriptor that will make an end's terminal
abbrev pub moving_link : Terminal → Option LinkId
moving_link t = option_map (λ d. d.link) (terminal_descriptor t)

-- an item between two nodes has one descriptor per end, in order, and each makes the terminal that its end waits for
pub record Moves (w : World) (g : Records) : Type 0 where
  pub ends : (from to i : ℕ) (link : LinkId) (s : Side) (n : ℕ) (item : Item) (moves : List Descriptor) →
      IsUnderWay w from to i (messages.Item link s n item moves) → from ≢ to → map (λ d. d.end) moves ≡ ends_in item
  pub within : (n i : ℕ) (link : LinkId) (s : Side) (number : ℕ) (item : Item) (moves : List Descriptor) →
      IsUnderWay w n n i (messages.Item link s number item moves) → moves ≡ []
  pub recorded : (from to i j : ℕ) (m : Message) (d : Descriptor) → IsUnderWay w from to i m → slice_get (moves_of m) j ≡ Some d →
      is_recorded w g d.link ≡ true
  pub peripheral : (from to i j : ℕ) (m : Message) (d : Descriptor) → IsUnderWay w from to i m → slice_get (moves_of m) j ≡ Some d →
      is_central d.link ≡ false
  pub sender : (from to i j : ℕ) (m : Message) (d : Descriptor) → IsUnderWay w from to i m → slice_get (moves_of m) j ≡ Some d →
      side_node g d.link A ≡ from
  pub receiver : (from to i j : ℕ) (m : Message) (d : Descriptor) → IsUnderWay w from to i m → slice_get (moves_of m) j ≡ Some d →
      side_node g d.link B ≡ to
  pub awaited : (from to i j : ℕ) (m : Message) (d : Descriptor) → IsUnderWay w from to i m → slice_get (moves_of m) j ≡ Some d →
      side_router g d.link B ≡ None
  pub end : (from to i j : ℕ) (m : Message) (d : Descriptor) → IsUnderWay w from to i m → slice_get (moves_of m) j ≡ Some d →
      side_end g d.link B ≡ d.end
  pub one : (e : End) (h : Descriptor → ℕ) → under_way (λ from to m. total_list (of_end e h) (moves_of m)) w ≡ move_weight h (g.terminal e)
  pub moving : (p : Key) → is_recorded w g (inner_link p) ≡ true → (g.peripheral p).router ≡ None →
      moving_link (g.terminal (g.peripheral p).end) ≡ Some (inner_link p)
