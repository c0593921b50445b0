use Rattle.std.proofs.Common.{◌≡◌, ◌∙◌, false, inr, ap, sym, subst, refl}
use Rattle.ipcz_world.proofs.code.StatesOfNodes.{world_is}
use Rattle.ipcz_router.specs.declared.act.RouterAct.TheVariants as router_acts
use Rattle.ipcz_world.proofs.Vocabulary.{World, commit, node_at, set_node, Plain, act_lacks_serials}
use Rattle.ipcz_node.specs.declared.act.Act.TheVariants as acts
use Rattle.ipcz_node.specs.Lone.{RestsNext}
use Rattle.ipcz_world.proofs.code.PassingWithin.{rest-leads, rest-passing, rests-some}
use Rattle.ipcz_world.proofs.state.State.rest_at.Goals as goal

pub returns-in_default-clause-rests : goal.returns-in_default-clause-rests
unfolding node_at
returns-in_default-clause-rests c serial rests =
    absurd (c.in_default.ensures.none serial
    (subst (λ x. RestsNext x serial) (sym (c.node.ensures ∙ ap (λ (v : World). node_at v c.args.n) (world_is c.self.view_is))) rests))

pub rest-requires : goal.rest-requires
unfolding node_at
rest-requires c =
    rests-some c.node_mut.result.now.node c.in-Some.serial
    (subst (λ x. RestsNext x c.in-Some.serial) (c.node.ensures ∙ sym c.node_mut.ensures.value) c.in-Some.ensures.some)

pub returns : goal.returns
unfolding node_at set_node
returns c =
    let act = acts.Router c.in-Some.serial router_acts.Rest in
    let view = ap (λ (v : World). node_at v c.args.n) (world_is c.self.view_is) in
    let rests = subst (λ x. RestsNext x c.in-Some.serial) (c.node.ensures ∙ view) c.in-Some.ensures.some in
    let there = c.node_mut.ensures.value ∙ view in
    let behind = c.rest.ensures.node ∙ ap (λ k. commit k act Plain) there in
    let on = rest-leads (world_is c.self.view_is) c.requires rests behind (subst (λ k. act_lacks_serials k act ≡ false) there c.rest.ensures.allowed) in
    record {
      acts = inr refl;
      passing = rest-passing (world_is c.self.view_is) c.requires rests behind;
      none = λ e. cc;
      walk = λ _. on.walk;
      count = on.count;
      rests = λ _ _. refl;
    }
