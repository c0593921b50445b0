use Rattle.std.proofs.Common.{◌≡◌, ◌<◌, ◌+◌, length, drop, arith, ap, sym, ◌∙◌}
use Rattle.ipcz_world.proofs.code.StatesOfNodes.{world_is}
use Rattle.std.specs.FinMap.{entries}
use Rattle.ipcz_node.proofs.Serials.{entries_are}
use Rattle.ipcz_world.proofs.Vocabulary.{World, Node, place_at, bare_node, higher}
use Rattle.ipcz_world.specs.SettleLimit.{put_among, put_within}
use Rattle.ipcz_world.proofs.code.Tallying.{higher-third, put_within-next}
use Rattle.ipcz_world.proofs.state.State.put_count.Goals as goal

pub loop-n-preserved : goal.loop-n-preserved
loop-n-preserved c =
    let nodes = c.args.self.now.world.nodes in
    let e = c.args.end in
    let n = c.loop-n.n in
    let low : n < length nodes =
    omega (arith, c.loop-n-test.true, c.requires.lengths.nodes, ap (λ (w : World). w.count) (world_is c.self.view_is)) in
    let node = c.node.ensures ∙ ap (λ (w : World). place_at (bare_node 0 0) w.nodes n) (world_is c.self.view_is) in
    let here : c.put_among.result ≡ put_among e (entries (place_at (bare_node 0 0) nodes n).routers) =
    c.put_among.ensures ∙ ap (put_among e) (sym (entries_are (λ x. x.router) 0 _ c.routers.result.now c.routers.ensures.rising) ∙
    ap entries (c.routers.ensures.routers ∙ ap (λ (x : Node). x.routers) node)) in
    ap (λ z. higher z (put_within e (drop (n + 1) nodes))) (c.higher-count.ensures ∙ ap (higher c.loop-n.count) here) ∙
    sym (higher-third c.loop-n.count (put_among e (entries (place_at (bare_node 0 0) nodes n).routers))
    (put_within e (drop (n + 1) nodes))) ∙
    ap (higher c.loop-n.count) (sym (put_within-next e (bare_node 0 0) nodes n low)) ∙ c.loop-n.invariant
