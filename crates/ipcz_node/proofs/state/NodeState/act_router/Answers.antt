use Rattle.std.proofs.Common.{◌≡◌, true, false, Some, sym, subst, ap, ◌∙◌}
use Rattle.std.specs.Prelude.{IsSomeAnd, is_some}
use Rattle.std.specs.FinMap.{get}
use Rattle.ipcz_router.specs.Router.{Router}
use Rattle.ipcz_router.specs.ActTable.{may_take}
use Rattle.ipcz_router.specs.ActEffects.{apply, leaves_by}
use Rattle.ipcz_node.specs.Node.{router_in}
use Rattle.ipcz_node.specs.Rooms.{drop_filed}
use Rattle.ipcz_node.specs.Acts.{keep_or_drop}
use Rattle.ipcz_node.specs.contracts.state.NodeState.{the_view}
use Rattle.ipcz_node.proofs.AtRouter.{taken}
use Rattle.ipcz_node.proofs.Leaving.{leaves_so}
use Rattle.ipcz_node.proofs.Written.{insert_here, remove_written}
use Rattle.ipcz_node.proofs.state.NodeState.act_router.Goals as goal

pub drop_router-requires-then-has_left : goal.drop_router-requires-then-has_left
drop_router-requires-then-has_left c =
    let v = the_view c.self.inside in
    let here = taken (router_in v.node c.args.serial) (λ (r : Router). may_take r c.args.act ≡ true)
    (subst (λ x. IsSomeAnd (router_in x.node c.args.serial) (λ (r : Router). may_take r c.args.act ≡ true)) (sym c.self.view_is)
    c.requires.possible) in
    ap (λ f. is_some (get f.routers c.args.serial)) (c.act-applied.ensures.router here.0 here.1)
    ∙ ap is_some (insert_here v.node.routers c.args.serial (apply here.0 c.args.act c.args.answer))

pub returns-then-has_left-clause-node : goal.returns-then-has_left-clause-node
unfolding keep_or_drop
returns-then-has_left-clause-node c r is =
    let v = the_view c.self.inside in
    let here : router_in v.node c.args.serial ≡ Some r = ap (λ x. router_in x.node c.args.serial) c.self.view_is ∙ is in
    let filed = c.drop_router-then-has_left.ensures
    ∙ ap (λ f. drop_filed f c.args.serial) (c.act-applied.ensures.router r here)
    ∙ ap (λ m. record c.self.inside.routers.filed { routers = m })
    (remove_written v.node.routers c.args.serial (apply r c.args.act c.args.answer)) in
    let left : leaves_by r c.args.act ≡ true =
    sym (leaves_so r c.args.act c.act-applied.result (c.act-applied.ensures.output r here)) ∙ sym c.has_left.ensures ∙ c.if-has_left.true in
    (λ j. record v.node { routers = (filed j).routers; held = (filed j).held; next_router = (filed j).next })
    ∙ sym (ap (keep_or_drop v.node c.args.serial (apply r c.args.act c.args.answer)) left)
    ∙ ap (λ x. keep_or_drop x.node c.args.serial (apply r c.args.act c.args.answer) (leaves_by r c.args.act)) c.self.view_is

pub returns-else-has_left-clause-node : goal.returns-else-has_left-clause-node
unfolding keep_or_drop
returns-else-has_left-clause-node c r is =
    let v = the_view c.self.inside in
    let here : router_in v.node c.args.serial ≡ Some r = ap (λ x. router_in x.node c.args.serial) c.self.view_is ∙ is in
    let filed = c.act-applied.ensures.router r here in
    let stays : leaves_by r c.args.act ≡ false =
    sym (leaves_so r c.args.act c.act-applied.result (c.act-applied.ensures.output r here)) ∙ sym c.has_left.ensures ∙ c.if-has_left.false in
    (λ j. record v.node { routers = (filed j).routers; held = (filed j).held; next_router = (filed j).next })
    ∙ sym (ap (keep_or_drop v.node c.args.serial (apply r c.args.act c.args.answer)) stays)
    ∙ ap (λ x. keep_or_drop x.node c.args.serial (apply r c.args.act c.args.answer) (leaves_by r c.args.act)) c.self.view_is
