-- What an end that has arrived has left behind it: only proxies that are out of its route.
use Rattle.std.specs.Prelude.{◌≡◌, ◌<◌, ℕ, Bool, true, false, nat_lt, if◌then◌else◌, Option, Some, None, is_some}
use Rattle.ipcz_base.specs.declared.end.End.{End}
use Rattle.ipcz_base.specs.declared.link_end.LinkEnd.{LinkEnd}
use Rattle.ipcz_edge.specs.Edge.{Edge}
use Rattle.ipcz_router.specs.Router.{Router, is_terminal, inward_edge}
use Rattle.ipcz_node.specs.Arriving.{arrival_of}
use Rattle.ipcz_world.specs.World.{World, Key, node_at, router_at}
use Rattle.ipcz_world.specs.Books.{Books}
use Rattle.ipcz_world.specs.Routes.{Routes}
use Rattle.ipcz_world.specs.Lawful.{Lawful}
use Rattle.ipcz_world.specs.Owed.{IsEdgeOf}

-- whether an end of a node has arrived; none at a node that isn't there
abbrev pub arrival_in : World → ℕ → End → Option Bool
arrival_in w n at = if nat_lt n w.count then arrival_of (node_at w n) at else None

-- a router is out of its end's route: no new item goes over a link of it, and of each link that it gives up it knows how many items still go
-- over it, in both directions. It passes these on and leaves, for which it needs no link word and no lock
pub record IsOutOfRoute (r : Router) : Type 0 where
  pub no_outward : r.outward.primary ≡ None
  pub no_inward : (inward_edge r).primary ≡ None
  pub knows_to : (e : Edge) (d : LinkEnd) → IsEdgeOf r e → e.decaying ≡ Some d → is_some e.length_to ≡ true
  pub knows_from : (e : Edge) (d : LinkEnd) → IsEdgeOf r e → e.decaying ≡ Some d → is_some e.length_from ≡ true

-- each proxy of an end is out of its route
abbrev pub AreOutOfRoute : World → End → Type 0
AreOutOfRoute w e = (k : Key) (r : Router) → router_at w k ≡ Some r → r.end ≡ e → is_terminal r ≡ false → IsOutOfRoute r

-- law: in a lawful world each proxy of an end that has arrived is out of its route
abbrev pub ArrivedLeaveProxiesBehind : Type 0
ArrivedLeaveProxiesBehind =
    (w : World) (b : Books) (g : Routes) (n : ℕ) (e : End) → Lawful w b g → n < w.count → arrival_of (node_at w n) e ≡ Some true →
    AreOutOfRoute w e
