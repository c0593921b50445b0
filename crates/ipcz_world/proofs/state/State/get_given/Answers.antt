use Rattle.std.proofs.Common.{◌≡◌, ◌≤◌, ap, arith}
use Rattle.ipcz_world.proofs.code.StatesOfNodes.{world_is}
use Rattle.ipcz_world.proofs.Vocabulary.{World}
use Rattle.ipcz_world.specs.Taking.{node_of}
use Rattle.ipcz_world.specs.declared.step.Step.TheVariants.{Get}
use Rattle.ipcz_world.proofs.code.Regular.{stranger}
use Rattle.ipcz_world.proofs.state.State.get_given.Goals as goal

pub returns-then-n-self : goal.returns-then-n-self
unfolding node_of
returns-then-n-self c =
    let many : c.self.inside.count ≡ c.args.self.now.world.count = ap (λ (w : World). w.count) (world_is c.self.view_is) in
    let out : c.args.self.now.world.count ≤ c.args.n = omega (arith, many, c.if-n-self.true) in
    stranger c.args.self.now.world (Get c.args.n c.args.at) out
