use Rattle.std.proofs.Common.{◌≡◌, true, sym, subst, ap, ◌∙◌}
use Rattle.std.specs.Prelude.{IsSomeAnd, ◌++◌, ◌∷◌, []}
use Rattle.ipcz_base.specs.Indexed.{place_at, put_place}
use Rattle.ipcz_router.specs.Router.{Router}
use Rattle.ipcz_router.specs.ActTable.{may_take}
use Rattle.ipcz_router.specs.declared.act.RouterAct.TheVariants.{SendOut}
use Rattle.ipcz_router.specs.declared.act.Answer.TheVariants.{Plain}
use Rattle.ipcz_router.specs.declared.outlook.Outlook.TheVariants.{Item}
use Rattle.ipcz_node.specs.declared.act.Act.TheVariants.{Router as OfRouter}
use Rattle.ipcz_node.specs.Node.{router_in}
use Rattle.ipcz_node.specs.Acts.{commit}
use Rattle.ipcz_node.specs.Events.{event_of}
use Rattle.ipcz_node.specs.Preparing.{outlook_at}
use Rattle.ipcz_node.specs.contracts.state.NodeState.{the_view}
use Rattle.ipcz_node.proofs.AtRouter.{taken}
use Rattle.ipcz_node.proofs.Carrying.{committed_lone, event_lone, lacks_none}
use Rattle.ipcz_node.proofs.state.NodeState.send_lone.Goals as goal

pub returns-then-is_err-clause-allowed : goal.returns-then-is_err-clause-allowed
returns-then-is_err-clause-allowed c =
    lacks_none c.args.self.now.node c.args.serial c.args.to c.counts_serials.ensures.links c.requires.alone

pub returns-clause-allowed : goal.returns-clause-allowed
returns-clause-allowed c = lacks_none c.args.self.now.node c.args.serial c.args.to c.counts_serials.ensures.links c.requires.alone

pub returns-clause-ok : goal.returns-clause-ok
returns-clause-ok c =
    let v = the_view c.self.inside in
    let here = taken (router_in v.node c.args.serial) (λ (r : Router). may_take r SendOut ≡ true)
    (subst (λ x. IsSomeAnd (router_in x.node c.args.serial) (λ (r : Router). may_take r SendOut ≡ true)) (sym c.self.view_is)
    c.requires.possible) in
    let filed = c.send_out-message.ensures.router here.0 here.1 in
    let queued = c.push.ensures ∙ ap (λ ms. put_place [] ms c.args.to (place_at [] ms c.args.to ++ c.send_out-message.result ∷ []))
    c.reserve.ensures.messages in
    (λ j. record v.node { routers = (filed j).routers; held = (filed j).held; next_router = (filed j).next; outboxes = queued j })
    ∙ committed_lone v.node c.args.serial here.0 c.args.to c.send_out-message.result here.1
    (subst (λ x. outlook_at (router_in x.node c.args.serial) SendOut ≡ Item c.args.to 0) (sym c.self.view_is) c.requires.alone)
    (c.send_out-message.ensures.message here.0 here.1)
    ∙ ap (λ x. commit x.node (OfRouter c.args.serial SendOut) Plain) c.self.view_is

pub returns-clause-sent : goal.returns-clause-sent
returns-clause-sent c =
    let v = the_view c.self.inside in
    let here = taken (router_in v.node c.args.serial) (λ (r : Router). may_take r SendOut ≡ true)
    (subst (λ x. IsSomeAnd (router_in x.node c.args.serial) (λ (r : Router). may_take r SendOut ≡ true)) (sym c.self.view_is)
    c.requires.possible) in
    event_lone v.node c.args.serial here.0 c.args.to c.send_out-message.result c.sent_as-sent.result here.1
    (subst (λ x. outlook_at (router_in x.node c.args.serial) SendOut ≡ Item c.args.to 0) (sym c.self.view_is) c.requires.alone)
    (c.send_out-message.ensures.message here.0 here.1) c.sent_as-sent.ensures
    ∙ ap (λ x. event_of x.node (OfRouter c.args.serial SendOut) Plain) c.self.view_is
