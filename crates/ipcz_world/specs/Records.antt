-- What is remembered of words, links, bypasses and ends, in addition to the world. Records only grow, and outlive the routers that they name.
use Rattle.std.specs.Prelude.{ℕ, Bool, true, false, ◌&&◌, nat_le, nat_lt, if◌then◌else◌, Option, Some, None, option_map}
use Rattle.ipcz_base.specs.declared.side.Side.{Side}
use Rattle.ipcz_base.specs.declared.side.Side.TheVariants.{A, B}
use Rattle.ipcz_base.specs.declared.end.End.{End}
use Rattle.ipcz_base.specs.declared.link_id.LinkId.{LinkId}
use Rattle.ipcz_base.specs.declared.link_id.LinkId.TheVariants.{Central, Peripheral}
use Rattle.ipcz_base.specs.declared.descriptor.Descriptor.{Descriptor}
use Rattle.ipcz_base.specs.Sides.{opposite, same_side}
use Rattle.ipcz_word.specs.SideSets.{Sides, has}
use Rattle.ipcz_base.specs.Ends.{end_at}
use Rattle.ipcz_world.specs.World.{World, Key, node_at}
use Rattle.ipcz_world.specs.Routes.{Routes}

-- what a word is used for
pub data Owner : Type 0 where
  -- nobody has claimed it
  Unclaimed : Owner
  -- the spare of a router
  Spare : (key : Key) → Owner
  -- for an open under way at a node
  Opening : (node : ℕ) → Owner
  -- the fresh word of a bypass that has begun, named by its old word
  Fresh : (old : ℕ) → Owner
  -- the word of a link
  Linked : Owner
  -- nothing any more: it was the spare of a proxy that Gone took away
  Lost : Owner

-- a central link: its pair, the node and router of each side (none: it is awaited), the bypass that made it, and the sides that left it by
-- retiring or with Gone
pub record CentralRecord : Type 0 where
  pub pair : ℕ
  pub node : Side → ℕ
  pub router : Side → Option ℕ
  pub born : Option ℕ
  pub left : Sides

-- a peripheral link: its end, the proxy, the node and router inward (none: a descriptor is under way), the bypass that takes it away, and the
-- sides that left it with Gone
pub record PeripheralRecord : Type 0 where
  pub end : End
  pub proxy : ℕ
  pub node : ℕ
  pub router : Option ℕ
  pub by : Option ℕ
  pub left : Sides

-- a bypass, named by its old word: how far it is (0: none, 1 begun, 2 taken, 3 accepted, 4 told, 5 ended), the proxy, its inward link, the
-- fresh word, and the lengths toward the router inward's old link and the old link
pub record Bypass : Type 0 where
  pub stage : ℕ
  pub proxy : Key
  pub inner : Key
  pub fresh : ℕ
  -- the number of the router inward when it took the fresh link
  pub taken_at : ℕ
  -- the number of the router across when it accepted
  pub accepted_at : ℕ

-- where the terminal of an end is
pub data Terminal : Type 0 where
  -- the pair isn't opened
  Nowhere : Terminal
  -- at this router
  At : (key : Key) → Terminal
  -- under way, to be made from a descriptor
  Moving : (descriptor : Descriptor) → Terminal
  -- its sink has left
  Retired : Terminal

-- all that is remembered; the peripheral link of a key is the one of that node and serial
pub record Records : Type 0 where
  pub owner : ℕ → Owner
  pub central : ℕ → CentralRecord
  pub peripheral : Key → PeripheralRecord
  pub bypass : ℕ → Bypass
  -- the bypass that a router has begun
  pub begun : Key → Option ℕ
  pub terminal : End → Terminal

-- whether the word is the word of a link
unfoldable pub is_linked : Owner → Bool
is_linked Linked = true
is_linked other = false

-- whether the word is unclaimed
unfoldable pub is_unclaimed : Owner → Bool
is_unclaimed Unclaimed = true
is_unclaimed other = false

-- whether the word was lost
unfoldable pub is_lost_owner : Owner → Bool
is_lost_owner Lost = true
is_lost_owner other = false

-- a router of a node, if it is known
abbrev pub key_at : ℕ → Option ℕ → Option Key
key_at node serial = option_map (λ s. record { node = node; serial = s }) serial

-- the peripheral link of a key
abbrev pub inner_link : Key → LinkId
inner_link k = Peripheral k.node k.serial

-- whether a link has a record
unfoldable pub is_recorded : World → Records → LinkId → Bool
is_recorded w g (Central i) = is_linked (g.owner i)
is_recorded w g (Peripheral n s) = nat_lt n w.count && nat_lt s (node_at w n).next_peripheral

-- the node of a link's side
unfoldable pub side_node : Records → LinkId → Side → ℕ
side_node g (Central i) s = (g.central i).node s
side_node g (Peripheral n x) A = n
side_node g (Peripheral n x) B = (g.peripheral (record { node = n; serial = x })).node

-- the router that a link's side is for, once there is one
unfoldable pub side_router : Records → LinkId → Side → Option Key
side_router g (Central i) s = key_at ((g.central i).node s) ((g.central i).router s)
side_router g (Peripheral n x) A = Some (record { node = n; serial = (g.peripheral (record { node = n; serial = x })).proxy })
side_router g (Peripheral n x) B =
    key_at (g.peripheral (record { node = n; serial = x })).node (g.peripheral (record { node = n; serial = x })).router

-- whether the router of a link's side has left it by retiring or with Gone
unfoldable pub is_left : Records → LinkId → Side → Bool
is_left g (Central i) s = has (g.central i).left s
is_left g (Peripheral n x) s = has (g.peripheral (record { node = n; serial = x })).left s

-- the end of the routers of a link's side
unfoldable pub side_end : Records → LinkId → Side → End
side_end g (Central i) s = end_at (g.central i).pair s
side_end g (Peripheral n x) s = (g.peripheral (record { node = n; serial = x })).end

-- the routes that the records tell
abbrev pub routes_of : Records → Routes
routes_of g = record {
  is_link = λ i. is_linked (g.owner i);
  pair = λ i. (g.central i).pair;
  end = λ k. (g.peripheral k).end;
  lost = λ i. is_lost_owner (g.owner i);
}

-- whether a bypass has begun
abbrev pub is_begun : Bypass → Bool
is_begun b = nat_le 1 b.stage

-- the bypass that takes a link away
unfoldable pub bypass_of : Records → LinkId → Option ℕ
bypass_of g (Central i) = if is_begun (g.bypass i) then Some i else None
bypass_of g (Peripheral n x) = (g.peripheral (record { node = n; serial = x })).by

-- the side of the bypassed proxy on its old link
abbrev pub proxy_side : Records → ℕ → Side
proxy_side g o = (g.peripheral (g.bypass o).inner).end.side

-- the side of the router across
abbrev pub across_side : Records → ℕ → Side
across_side g o = opposite (proxy_side g o)

-- a number that is known from a stage on
unfoldable pub known_from : ℕ → ℕ → ℕ → Option ℕ
known_from first stage n = if nat_le first stage then Some n else None

-- how many items a side of a bypassed link sends over it, once that is settled
unfoldable pub bypass_length : Records → ℕ → LinkId → Side → Option ℕ
bypass_length g o (Central i) s =
    if same_side s (proxy_side g o) then known_from 3 (g.bypass o).stage (g.bypass o).taken_at else known_from 3 (g.bypass o).stage
    (g.bypass o).accepted_at
bypass_length g o (Peripheral n x) A = known_from 3 (g.bypass o).stage (g.bypass o).accepted_at
bypass_length g o (Peripheral n x) B = known_from 2 (g.bypass o).stage (g.bypass o).taken_at

-- the same for the bypass that takes a link away, if one does
unfoldable pub length_by : Records → LinkId → Side → Option ℕ → Option ℕ
length_by g link s None = None
length_by g link s (Some o) = bypass_length g o link s

-- how many items a side of a link sends over it, once that is settled
abbrev pub side_length : Records → LinkId → Side → Option ℕ
side_length g link s = length_by g link s (bypass_of g link)

-- the node of an end's terminal, if it stands
unfoldable pub terminal_node : Terminal → Option ℕ
terminal_node Nowhere = None
terminal_node (At k) = Some k.node
terminal_node (Moving d) = None
terminal_node Retired = None

-- the descriptor that will make an end's terminal
unfoldable pub terminal_descriptor : Terminal → Option Descriptor
terminal_descriptor Nowhere = None
terminal_descriptor (At k) = None
terminal_descriptor (Moving d) = Some d
terminal_descriptor Retired = None

-- whether an end's pair isn't opened
unfoldable pub is_nowhere : Terminal → Bool
is_nowhere Nowhere = true
is_nowhere other = false
