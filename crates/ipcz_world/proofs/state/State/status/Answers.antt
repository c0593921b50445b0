use Rattle.std.proofs.Common.{◌≡◌, ap, arith, subst, ◌∙◌}
use Rattle.ipcz_world.proofs.code.StatesOfNodes.{world_is}
use Rattle.ipcz_world.proofs.Vocabulary.{place_at, bare_node, World, node_at}
use Rattle.ipcz_node.specs.Looking.{IsLook}
use Rattle.ipcz_world.proofs.state.State.status.Goals as goal

pub returns-then-n-self-clause-here : goal.returns-then-n-self-clause-here
returns-then-n-self-clause-here c =
    let many : c.self.inside.count ≡ c.args.self.now.world.count = ap (λ (w : World). w.count) (world_is c.self.view_is) in
    λ inside. absurd (omega (arith, many, c.if-n-self.true, inside))

pub returns-clause-here : goal.returns-clause-here
unfolding node_at
returns-clause-here c = λ inside.
    let read = c.node.ensures ∙ ap (λ (w : World). place_at (bare_node 0 0) w.nodes c.args.n) (world_is c.self.view_is) in
    subst (λ x. IsLook x c.args.at c.status.result) read c.status.ensures

pub returns-clause-away : goal.returns-clause-away
returns-clause-away c =
    let many : c.self.inside.count ≡ c.args.self.now.world.count = ap (λ (w : World). w.count) (world_is c.self.view_is) in
    λ out. absurd (omega (arith, many, c.if-n-self.false, out))
