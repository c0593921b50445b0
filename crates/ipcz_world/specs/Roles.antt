-- What a router is on its links, what its edges are then, and where its links are, as the records tell.
use Rattle.std.specs.Prelude.{◌≡◌, ◌≤◌, ℕ, Bool, true, false, cond, Option, Some, None, option_map, is_some}
use Rattle.ipcz_base.specs.declared.side.Side.{Side}
use Rattle.ipcz_base.specs.declared.side.Side.TheVariants.{A, B}
use Rattle.ipcz_base.specs.declared.end.End.{End}
use Rattle.ipcz_base.specs.declared.link_id.LinkId.{LinkId}
use Rattle.ipcz_base.specs.declared.link_id.LinkId.TheVariants.{Central, Peripheral}
use Rattle.ipcz_base.specs.declared.link_end.LinkEnd.{LinkEnd}
use Rattle.ipcz_base.specs.Sides.{opposite, same_side}
use Rattle.ipcz_edge.specs.Edge.{Edge, no_edge}
use Rattle.ipcz_router.specs.Router.{Router, is_proxy, inward_edge}
use Rattle.ipcz_world.specs.World.{World, Key}
use Rattle.ipcz_world.specs.Records.{Records, inner_link, is_begun, is_recorded, side_node, side_router, side_end, bypass_of, proxy_side, across_side, known_from}
use Rattle.ipcz_world.specs.Structure.{is_outward}
use Rattle.ipcz_world.specs.Bypasses.{inner_of, fresh_of}
use Rattle.ipcz_world.specs.Each.{EachRouter}

-- the outward side of a router: on a link alone, or on the fresh link of a bypass while a link that it takes away decays, the old one at the
-- router across, the inner one at the router inward
pub data Outward : Type 0 where
  On : (link : LinkId) (side : Side) → Outward
  Across : (old : ℕ) → Outward
  Inward : (old : ℕ) → Outward

-- a router that stands outward so, a terminal or a proxy with its inner link, or a proxy that has begun, and has its old and its inner link
-- still, or not
pub data Role : Type 0 where
  Unbegun : (outward : Outward) (inner : Option Key) → Role
  Begun : (old : ℕ) (out into : Bool) → Role

-- the link that a router goes on with outward, and its side
abbrev pub link_of : Records → Outward → LinkId
link_of g (On link side) = link
link_of g (Across o) = fresh_of g o
link_of g (Inward o) = fresh_of g o

abbrev pub side_of : Records → Outward → Side
side_of g (On link side) = side
side_of g (Across o) = across_side g o
side_of g (Inward o) = proxy_side g o

-- the end of a link at a side
abbrev pub end_of : Records → LinkId → Side → LinkEnd
end_of g link side = record { link = link; side = side; other = side_node g link (opposite side) }

abbrev pub edge_at : Option LinkEnd → LinkEnd → Option ℕ → Option ℕ → Edge
edge_at primary decaying to from = record { primary = primary; decaying = Some decaying; length_to = to; length_from = from }

abbrev pub lone : Option LinkEnd → Edge
lone primary = record { primary = primary; decaying = None; length_to = None; length_from = None }

abbrev pub standing_edge : Records → Outward → Edge
standing_edge g (On link side) = lone (Some (end_of g link side))
standing_edge g (Across o) = edge_at (Some (end_of g (fresh_of g o) (across_side g o))) (end_of g (Central o) (across_side g o))
    (Some (g.bypass o).accepted_at) (Some (g.bypass o).taken_at)
standing_edge g (Inward o) = edge_at (Some (end_of g (fresh_of g o) (proxy_side g o))) (end_of g (inner_of g o) B) (Some (g.bypass o).taken_at)
    (known_from 5 (g.bypass o).stage (g.bypass o).accepted_at)

-- the edges of a proxy that has begun
abbrev pub old_edge : Records → ℕ → Bool → Edge
old_edge g o false = no_edge
old_edge g o true = edge_at None (end_of g (Central o) (proxy_side g o)) (known_from 4 (g.bypass o).stage (g.bypass o).taken_at)
    (known_from 4 (g.bypass o).stage (g.bypass o).accepted_at)

abbrev pub inner_edge : Records → ℕ → Bool → Edge
inner_edge g o false = no_edge
inner_edge g o true = edge_at None (end_of g (inner_of g o) A) (known_from 4 (g.bypass o).stage (g.bypass o).accepted_at)
    (known_from 4 (g.bypass o).stage (g.bypass o).taken_at)

abbrev pub outward_of : Records → Role → Edge
outward_of g (Unbegun a inner) = standing_edge g a
outward_of g (Begun o out into) = old_edge g o out

abbrev pub inward_of : Records → Role → Edge
inward_of g (Unbegun a inner) = lone (option_map (λ p. end_of g (inner_link p) A) inner)
inward_of g (Begun o out into) = inner_edge g o into

abbrev pub has_inner : Role → Bool
has_inner (Unbegun a inner) = is_some inner
has_inner (Begun o out into) = true

-- an edge as far as its lengths mean something
abbrev pub meant : Option LinkEnd → Option ℕ → Option ℕ
meant None n = None
meant (Some e) n = n

abbrev pub trim : Edge → Edge
trim e = record e { length_to = meant e.decaying e.length_to; length_from = meant e.decaying e.length_from }

-- the last stage of a bypass at which a side of a link that it takes away is primary still
abbrev pub until : Records → ℕ → LinkId → Side → ℕ
until g o (Central i) s = cond (same_side s (proxy_side g o)) 0 2
until g o (Peripheral n x) A = 0
until g o (Peripheral n x) B = 1

-- a link is recorded at its side for the router there, and no bypass has taken it away from that side
pub record IsOn (w : World) (g : Records) (k : Key) (e : End) (link : LinkId) (s : Side) : Type 0 where
  pub recorded : is_recorded w g link ≡ true
  pub router : side_router g link s ≡ Some k
  pub end : e ≡ side_end g link s
  pub stays : (o : ℕ) → bypass_of g link ≡ Some o → (g.bypass o).stage ≤ until g o link s

-- what the records say of an outward link, and of one that decays
abbrev pub FitsOut : Records → Key → Outward → Type 0
FitsOut g k (On link side) = is_outward link side ≡ true
FitsOut g k (Across o) = (3 ≤ (g.bypass o).stage) × (side_router g (Central o) (across_side g o) ≡ Some k)
FitsOut g k (Inward o) = (2 ≤ (g.bypass o).stage) × (side_router g (inner_of g o) B ≡ Some k)

abbrev pub Fits : World → Records → Key → End → Role → Type 0
Fits w g k e (Unbegun a inner) = IsOn w g k e (link_of g a) (side_of g a) × FitsOut g k a ×
    ((p : Key) → inner ≡ Some p → IsOn w g k e (inner_link p) A)
Fits w g k e (Begun o out into) = (g.begun k ≡ Some o) × (e ≡ (g.peripheral (g.bypass o).inner).end)

-- a router has the edges of its role
pub record HasRole (w : World) (g : Records) (k : Key) (r : Router) : Type 0 where
  pub role : Role
  pub proxy : is_proxy r ≡ has_inner role
  pub outward : trim r.outward ≡ outward_of g role
  pub inward : trim (inward_edge r) ≡ inward_of g role
  pub fits : Fits w g k r.end role

-- who has begun a bypass is its proxy, and back
pub record BegunRecords (g : Records) : Type 0 where
  pub begun_proxy : (k : Key) (o : ℕ) → g.begun k ≡ Some o → (g.bypass o).proxy ≡ k
  pub begun_stage : (k : Key) (o : ℕ) → g.begun k ≡ Some o → is_begun (g.bypass o) ≡ true
  pub proxy_begun : (o : ℕ) → is_begun (g.bypass o) ≡ true → g.begun (g.bypass o).proxy ≡ Some o

abbrev pub Roles : World → Records → Type 0
Roles w g = EachRouter w (HasRole w g)
