use Rattle.std.proofs.Common.{◌<◌, ◌≤◌, ◌+◌, ◌*◌, cond, length, arith, ap, subst}
use Rattle.ipcz_world.proofs.code.StatesOfNodes.{world_is}
use Rattle.ipcz_world.proofs.Vocabulary.{World, node_at, bare_node, total_list, is_clear}
use Rattle.ipcz_world.specs.SettleLimit.{node_limit, settle_limit}
use Rattle.ipcz_world.specs.Tallies.{Tells}
use Rattle.ipcz_world.proofs.code.Tallying.{tallied-item, tallied-list, place-is}
use Rattle.ipcz_world.proofs.state.State.settle_limit.Goals as goal

pub loop-n-preserved : goal.loop-n-preserved
unfolding node_at
loop-n-preserved c =
    let w = c.args.self.now.world in
    let n = c.loop-n.n in
    let low : n < length w.nodes =
    omega (arith, c.loop-n-test.true, c.requires.lengths.nodes, ap (λ (w : World). w.count) (world_is c.self.view_is)) in
    tallied-item (node_limit w) w.nodes n (node_at w n) c.loop-n.sum c.plus-sum.result c.node_limit.result _ low
    (place-is (bare_node 0 0) (node_at w n) w.nodes n low) c.loop-n.invariant c.plus-sum.ensures c.node_limit.ensures

pub returns : goal.returns
unfolding settle_limit
returns c =
    let w = c.args.self.now.world in
    let high : length w.nodes ≤ c.loop-n.n =
    omega (arith, c.loop-n-test.false, c.requires.lengths.nodes, ap (λ (w : World). w.count) (world_is c.self.view_is)) in
    let mail = ap (λ (v : World). v.mail) (world_is c.self.view_is) in
    subst (λ ms. Tells c.plus.result (total_list (node_limit w) w.nodes + 37 * total_list (λ m. cond (is_clear m) 0 1) ms)) mail
    (c.plus.ensures _ _ (tallied-list (node_limit w) w.nodes c.loop-n.n c.loop-n.sum _ high c.loop-n.invariant)
    (c.times.ensures _ c.full_count.ensures))
