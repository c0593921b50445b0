use Rattle.std.proofs.Common.{drop}
use Rattle.ipcz_base.specs.Totals.{total_list}
use Rattle.ipcz_world.specs.SettleLimit.{router_limit}
use Rattle.ipcz_world.proofs.code.Tallying.{IsTallied}
use Rattle.ipcz_world.proofs.state.State.node_limit.Given as goal

-- the routers so far are summed up
abbrev pub invariant-loop-router : goal.invariant-loop-router
invariant-loop-router l = IsTallied l.sum (total_list (λ e. router_limit l.self.world e.1.router) (drop l.router-index l.router-items))
    (total_list (λ e. router_limit l.self.world e.1.router) l.router-items)
