use Rattle.std.proofs.Common.{◌≡◌, ◌<◌, ◌≤◌, ◌+◌, length, drop, arith, ap, sym, ◌∙◌}
use Rattle.ipcz_world.proofs.code.StatesOfNodes.{world_is}
use Rattle.ipcz_world.proofs.Vocabulary.{World, place_at, bare_node, higher, highest}
use Rattle.ipcz_world.specs.SettleLimit.{gone_at, gone_mailed, gone_most}
use Rattle.ipcz_world.proofs.code.Tallying.{higher-third, higher-none, highest-next, highest-none}
use Rattle.ipcz_world.proofs.state.State.gone_most.Goals as goal

pub loop-n-preserved : goal.loop-n-preserved
loop-n-preserved c =
    let nodes = c.args.self.now.world.nodes in
    let n = c.loop-n.n in
    let low : n < length nodes =
    omega (arith, c.loop-n-test.true, c.requires.lengths.nodes, ap (λ (w : World). w.count) (world_is c.self.view_is)) in
    let here : c.gone_at.result ≡ gone_at (place_at (bare_node 0 0) nodes n) = c.gone_at.ensures ∙
    ap gone_at (c.node.ensures ∙ ap (λ (w : World). place_at (bare_node 0 0) w.nodes n) (world_is c.self.view_is)) in
    ap (λ z. higher z (highest gone_at (drop (n + 1) nodes))) (c.higher-most.ensures ∙ ap (higher c.loop-n.most) here) ∙
    sym (higher-third c.loop-n.most (gone_at (place_at (bare_node 0 0) nodes n)) (highest gone_at (drop (n + 1) nodes))) ∙
    ap (higher c.loop-n.most) (sym (highest-next gone_at (bare_node 0 0) nodes n low)) ∙ c.loop-n.invariant

pub returns : goal.returns
unfolding gone_most
returns c =
    let w = c.args.self.now.world in
    let high : length w.nodes ≤ c.loop-n.n =
    omega (arith, c.loop-n-test.false, c.requires.lengths.nodes, ap (λ (w : World). w.count) (world_is c.self.view_is)) in
    let all : c.loop-n.most ≡ highest gone_at w.nodes =
    sym (higher-none c.loop-n.most) ∙ ap (higher c.loop-n.most) (sym (highest-none gone_at w.nodes c.loop-n.n high)) ∙ c.loop-n.invariant in
    c.higher.ensures ∙ ap (λ z. higher z c.gone_most.result) all ∙
    ap (higher (highest gone_at w.nodes)) (c.gone_most.ensures ∙ ap (λ (v : World). highest gone_mailed v.mail) (world_is c.self.view_is))
