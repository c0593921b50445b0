use Rattle.std.proofs.Common.{◌≡◌, ◌≤◌, ◌<◌, ap, arith, sym, ◌∙◌}
use Rattle.ipcz_world.proofs.code.StatesOfNodes.{world_is}
use Rattle.ipcz_world.proofs.Vocabulary.{place_at, bare_node, World, node_at}
use Rattle.ipcz_node.specs.Calls.{next_sizes as node_sizes}
use Rattle.ipcz_world.proofs.code.Sizing.{sizes-here, no-sizes}
use Rattle.ipcz_world.proofs.state.State.next_sizes.Goals as goal

pub returns-then-n-self : goal.returns-then-n-self
returns-then-n-self c =
    let many : c.self.inside.count ≡ c.args.self.now.world.count = ap (λ (w : World). w.count) (world_is c.self.view_is) in
    let out : c.args.self.now.world.count ≤ c.args.n = omega (arith, many, c.if-n-self.true) in
    sym (no-sizes c.args.self.now.world c.args.n c.args.at out)

pub returns : goal.returns
unfolding node_at
returns c =
    let many : c.self.inside.count ≡ c.args.self.now.world.count = ap (λ (w : World). w.count) (world_is c.self.view_is) in
    let here : c.args.n < c.args.self.now.world.count = omega (arith, many, c.if-n-self.false) in
    let read = c.node.ensures ∙ ap (λ (w : World). place_at (bare_node 0 0) w.nodes c.args.n) (world_is c.self.view_is) in
    c.next_sizes.ensures ∙ ap (λ x. node_sizes x c.args.at) read ∙ sym (sizes-here c.args.self.now.world c.args.n c.args.at here)
