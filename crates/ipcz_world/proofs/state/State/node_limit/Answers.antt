use Rattle.std.proofs.Common.{◌≡◌, ◌+◌, ◌*◌, ℕ, length, map, refl, arith, ap, subst, sym, ◌∙◌}
use Rattle.ipcz_world.proofs.code.StatesOfNodes.{world_is}
use Rattle.std.specs.FinMap.{entries}
use Rattle.ipcz_base.specs.Totals.{total_of, total}
use Rattle.ipcz_node.proofs.Serials.{entries_are}
use Rattle.ipcz_world.proofs.Vocabulary.{World, Router, node_at, place_at, bare_node, total_list}
use Rattle.ipcz_world.specs.SettleLimit.{router_limit, node_limit}
use Rattle.ipcz_world.specs.Tallies.{Tells}
use Rattle.ipcz_world.proofs.code.Tallying.{tallied-item, tallied-list, of-entries}
use Rattle.ipcz_world.proofs.state.State.node_limit.Goals as goal

pub loop-router-preserved : goal.loop-router-preserved
loop-router-preserved c =
    tallied-item (λ e. router_limit c.args.self.now.world e.1.router) c.routers-router-items.result.now c.loop-router.router-index
    c.loop-router-item.result c.loop-router.sum c.plus-sum.result c.router_limit.result _ c.loop-router-test.true c.loop-router-item.is
    c.loop-router.invariant c.plus-sum.ensures c.router_limit.ensures

pub returns : goal.returns
unfolding node_limit node_at total
returns c =
    let w = c.args.self.now.world in
    let items = c.routers-router-items.result.now in
    let x = c.node-node.result.now.node in
    let node : x ≡ node_at w c.args.n = c.node-node.ensures ∙ ap
    (λ (v : World). place_at (bare_node 0 0) v.nodes c.args.n) (world_is c.self.view_is) in
    let f : ℕ → Router → ℕ = λ s r. router_limit w r in
    let routers : total_list (λ e. router_limit w e.1.router) items ≡ total f x.routers =
    sym (of-entries (router_limit w) (λ x. x.router) items) ∙
    ap (total_of f) (sym (entries_are (λ x. x.router) 0 _ items c.routers-router-items.ensures.rising)) ∙
    ap (λ m. total_of f (entries m)) c.routers-router-items.ensures.routers in
    let all = tallied-list (λ e. router_limit w e.1.router) items c.loop-router.router-index c.loop-router.sum _ c.loop-router-test.false
    c.loop-router.invariant in
    let boxes = total_list length (map (λ q. q.messages) c.outboxes.result.now) in
    let closes = length c.pending.result.now in
    let told = c.plus-2.ensures _ _ all (c.plus.ensures _ _ (c.times-messages.ensures _ c.waiting.ensures)
    (c.times-closes.ensures _ refl)) in
    let whole : total_list (λ e. router_limit w e.1.router) items + (38 * boxes + 3 * closes) ≡ node_limit w x = omega
    (arith, routers, ap (total_list length) c.outboxes.ensures, ap length c.pending.ensures) in
    subst (λ y. Tells c.plus-2.result (node_limit w y)) node (subst (Tells c.plus-2.result) whole told)
