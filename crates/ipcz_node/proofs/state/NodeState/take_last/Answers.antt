use Rattle.std.proofs.Common.{◌≡◌, ◌≤◌, Some, sym, subst}
use Rattle.std.specs.Prelude.{IsSomeAnd}
use Rattle.ipcz_base.specs.Limits.{no_number}
use Rattle.ipcz_router.specs.Router.{Router}
use Rattle.ipcz_node.specs.Node.{router_in, link_router, found}
use Rattle.ipcz_node.specs.Lone.{TakesItem}
use Rattle.ipcz_node.specs.contracts.state.NodeState.{the_view}
use Rattle.ipcz_node.proofs.AtRouter.{taken}
use Rattle.ipcz_node.proofs.state.NodeState.take_last.Goals as goal

pub returns-in-Some-clause-taken : goal.returns-in-Some-clause-taken
returns-in-Some-clause-taken c did =
    let v = the_view c.self.inside in
    let t = taken (router_in v.node c.in-Some.serial)
    (λ (r : Router). link_router v.node c.args.link c.args.side ≡ Some (found c.in-Some.serial r))
    (subst (λ x. IsSomeAnd (router_in x.node c.in-Some.serial)
    (λ (r : Router). link_router x.node c.args.link c.args.side ≡ Some (found c.in-Some.serial r))) (sym c.self.view_is)
    c.in-Some.ensures.found) in
    let filed = c.take_last.new.self.filed in
    let took = c.take_last.ensures.taken t.0 t.1 did in
    subst (λ x. TakesItem x.node c.args.link c.args.side c.args.n c.args.item.now
    (record v.node { routers = filed.routers; held = filed.held; next_router = filed.next })) c.self.view_is (record {
      serial = c.in-Some.serial;
      router = t.0;
      after = took.0;
      here = t.1;
      first = t.2;
      takes = took.1;
      changed = λ j. record v.node { routers = (took.2 j).routers; held = (took.2 j).held; next_router = (took.2 j).next };
      serials = subst (λ x. x.node.next_router ≤ no_number) (sym c.self.view_is) c.counts_serials.ensures.routers;
      links = subst (λ x. x.node.next_peripheral ≤ no_number) (sym c.self.view_is) c.counts_serials.ensures.links;
    })
