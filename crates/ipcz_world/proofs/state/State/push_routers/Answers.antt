use Rattle.std.proofs.Common.{◌≡◌, ◌++◌, ap, sym, ◌∙◌, drop, map}
use Rattle.ipcz_world.proofs.code.StatesOfNodes.{world_is}
use Rattle.std.specs.FinMap.{entries}
use Rattle.std.specs.List.{filter}
use Rattle.ipcz_node.specs.declared.act.Act.TheVariants.{Router as OfRouter}
use Rattle.ipcz_node.proofs.Serials.{entries_are}
use Rattle.ipcz_world.proofs.Vocabulary.{World, bare_node, node_at, place_at, can_act}
use Rattle.ipcz_world.specs.Listing.{acts_of_routers, router_acts}
use Rattle.ipcz_world.proofs.code.Listing.{acts_of_serials, listed-all, listed-more, serials-next, serials-past, serials-same}
use Rattle.ipcz_world.proofs.state.State.push_routers.Goals as goal

pub loop-serial-preserved : goal.loop-serial-preserved
loop-serial-preserved c =
    let items = c.routers-serial-items.result.now in
    let i = c.loop-serial.serial-index in
    listed-more (can_act c.args.self.now.world c.args.n) c.loop-serial.acts.items c.push_router.new.acts.items _
    (map (OfRouter c.loop-serial-item.result.0) router_acts) _ (acts_of_serials (drop i items))
    (serials-next items i c.loop-serial-item.result c.loop-serial-test.true c.loop-serial-item.is) c.in_ok-push_router.ensures c.loop-serial.invariant

pub returns : goal.returns
unfolding node_at
returns c =
    let w = c.args.self.now.world in
    let p = can_act w c.args.n in
    let items = c.routers-serial-items.result.now in
    let node : c.node.result.now.node ≡ node_at w c.args.n = c.node.ensures ∙ ap (λ (v : World). place_at (bare_node 0 0) v.nodes c.args.n) (world_is c.self.view_is) in
    let same : acts_of_serials items ≡ acts_of_routers (entries (node_at w c.args.n).routers) =
    sym (serials-same (λ x. x.router) items) ∙
    ap acts_of_routers (sym (entries_are (λ x. x.router) 0 _ items c.routers-serial-items.ensures.rising)) ∙
    ap (λ m. acts_of_routers (entries m)) c.routers-serial-items.ensures.routers ∙ ap (λ x. acts_of_routers (entries x.routers)) node in
    listed-all p c.loop-serial.acts.items _ (acts_of_serials (drop c.loop-serial.serial-index items))
    (serials-past items c.loop-serial.serial-index c.loop-serial-test.false) c.loop-serial.invariant
    ∙ ap (λ l. c.args.acts.now.items ++ filter p l) same
