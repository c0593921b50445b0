use Rattle.std.proofs.Common.{◌≡◌, ◌&&◌, is_some, drop}
use Rattle.ipcz_base.specs.Ends.{same_end}
use Rattle.ipcz_router.specs.Router.{is_terminal}
use Rattle.ipcz_node.specs.Serials.{entries_by}
use Rattle.ipcz_node.specs.Node.{first_where}
use Rattle.ipcz_world.proofs.state.limits.has_among.Given as goal

-- none of the routers so far is it
abbrev pub invariant-loop-router : goal.invariant-loop-router
invariant-loop-router l =
    is_some (first_where (λ r. is_terminal r && same_end r.end l.end) (entries_by (λ x. x.router) (drop l.router-index l.routers))) ≡
    is_some (first_where (λ r. is_terminal r && same_end r.end l.end) (entries_by (λ x. x.router) l.routers))
