use Rattle.std.proofs.Common.{◌∙◌, sym, ap}
use Rattle.ipcz_world.proofs.code.StatesOfNodes.{world_is}
use Rattle.ipcz_world.proofs.Vocabulary.{place_at, bare_node, World, node_at, holds_end}
use Rattle.ipcz_node.proofs.Turns.{passed}
use Rattle.ipcz_world.proofs.state.State.holder_of.Goals as goal

pub loop-n-preserved : goal.loop-n-preserved
unfolding node_at
loop-n-preserved c =
    let e = ap (λ (w : World). w.nodes) (sym (world_is c.self.view_is)) in
    passed _ c.loop-n.n _ _ c.loop-n-test.true
    (ap (λ xs. holds_end (place_at (bare_node 0 0) xs c.loop-n.n) c.args.end) e ∙ ap (λ x. holds_end x c.args.end) (sym c.node.ensures) ∙
    sym c.holds.ensures ∙ c.if-holds.false)
    c.loop-n.invariant
