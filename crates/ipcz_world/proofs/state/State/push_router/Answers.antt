use Rattle.std.proofs.Common.{◌++◌, ◌∷◌, [], ◌∙◌, ap, drop, get_or, map, ◌+◌}
use Rattle.std.specs.List.{filter}
use Rattle.ipcz_router.specs.declared.act.RouterAct.TheVariants.{SendOut}
use Rattle.ipcz_node.specs.declared.act.Act.TheVariants.{Router as OfRouter}
use Rattle.ipcz_world.proofs.Vocabulary.{can_act}
use Rattle.ipcz_world.proofs.code.Listing.{acts-next, acts-past, listed-all, listed-more}
use Rattle.ipcz_world.proofs.state.State.push_router.Goals as goal

pub loop-act-preserved : goal.loop-act-preserved
loop-act-preserved c =
    let items = c.router_acts-act-items.result.now in
    let i = c.loop-act.act-index in
    listed-more (can_act c.args.self.now.world c.args.n) c.loop-act.acts.items c.push_if_possible.new.acts.items _
    (OfRouter c.args.serial (get_or items i SendOut) ∷ []) (map (OfRouter c.args.serial) (drop (i + 1) items)) (map (OfRouter c.args.serial) (drop i items))
    (acts-next c.args.serial items i SendOut c.loop-act-test.true) c.in_ok-push_if_possible.ensures c.loop-act.invariant

pub returns : goal.returns
returns c =
    let items = c.router_acts-act-items.result.now in
    listed-all (can_act c.args.self.now.world c.args.n) c.loop-act.acts.items _ (map (OfRouter c.args.serial) (drop c.loop-act.act-index items))
    (acts-past c.args.serial items c.loop-act.act-index c.loop-act-test.false) c.loop-act.invariant
    ∙ ap (λ l. c.args.acts.now.items ++ filter (can_act c.args.self.now.world c.args.n) (map (OfRouter c.args.serial) l)) c.router_acts-act-items.ensures
