use Rattle.std.proofs.Common.{subst, refl}
use Rattle.ipcz_world.proofs.code.StatesOfNodes.{world_is}
use Rattle.ipcz_node.specs.Finding as nodes
use Rattle.ipcz_world.proofs.Vocabulary.{Node, World, node_at, set_node, the_view}
use Rattle.ipcz_world.specs.Retries.{LetAskAt}
use Rattle.ipcz_world.proofs.state.State.retry_at.Goals as goal

pub returns : goal.returns
unfolding node_at set_node
returns c =
    let v = c.let_all_ask.new.self.node in
    subst (λ (w : World). LetAskAt w c.args.n c.let_all_ask.result (set_node (the_view c.self.inside).world c.args.n v)) (world_is c.self.view_is)
    (v, subst (λ (x : Node). nodes.LetAsk x c.let_all_ask.result v) c.node_mut.ensures.value c.let_all_ask.ensures.asks, c.let_all_ask.ensures.wet, refl)
