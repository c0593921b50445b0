use Rattle.std.proofs.Common.{◌≡◌, true, ap, sym, subst, ◌∙◌}
use Rattle.ipcz_node.specs.declared.act.Act.TheVariants.{Router}
use Rattle.ipcz_router.specs.Router.{Router as RouterRecord}
use Rattle.ipcz_router.specs.ActTable.{may_take}
use Rattle.ipcz_router.specs.declared.act.Answer.TheVariants.{Plain}
use Rattle.ipcz_node.specs.Node.{router_in}
use Rattle.ipcz_node.specs.Events.{event_of}
use Rattle.ipcz_node.proofs.AtRouter.{taken}
use Rattle.ipcz_node.proofs.Carrying.{event_rest}
use Rattle.ipcz_node.specs.Acts.{act_lacks_serials}
use Rattle.ipcz_node.specs.Preparing.{act_grows}
use Rattle.ipcz_node.proofs.state.NodeState.act_plainly.Goals as goal

pub returns-in-SendOut-clause-grows : goal.returns-in-SendOut-clause-grows
returns-in-SendOut-clause-grows g c none =
    c.send_out.ensures.grows (sym (ap (λ a. act_grows c.args.self.now.node (Router c.args.serial a)) c.in-SendOut.is) ∙ none)

pub returns-in-Rest-clause-allowed : goal.returns-in-Rest-clause-allowed
returns-in-Rest-clause-allowed g c =
    ap (λ a. act_lacks_serials c.args.self.now.node (Router c.args.serial a)) c.in-Rest.is ∙ c.rest.ensures.allowed

pub returns-in-Rest-clause-event : goal.returns-in-Rest-clause-event
returns-in-Rest-clause-event g c =
    let here = taken (router_in c.args.self.now.node c.args.serial) (λ (r : RouterRecord). may_take r c.args.act ≡ true) c.requires.possible in
    subst (λ e. g.T.Told.tells e c.told.result)
    (event_rest c.args.self.now.node c.args.serial here.0 here.1
    ∙ sym (ap (λ a. event_of c.args.self.now.node (Router c.args.serial a) Plain) c.in-Rest.is)) c.told.ensures
