-- Whether a router's side of a central link is settled: what a terminal waits for before it travels on, so that the proxy which it then
-- leaves can be bypassed at once.
-- (ipcz: RouteEdge::is_stable, and the stable bit of a side of a central link.)
use Rattle.std.specs.Prelude.{Bool, not, ◌&&◌}
use Rattle.ipcz_router.specs.Router.{Router, is_on_central, decays}

-- whether a router has arrived: its outward primary link is central, its side of it is marked stable, and no edge decays
abbrev pub has_arrived : Router → Bool
has_arrived r = is_on_central r && (r.marked && not (decays r))
