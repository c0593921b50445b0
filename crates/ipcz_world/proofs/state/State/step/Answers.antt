use Rattle.std.proofs.Common.{◌≡◌, ap, arith}
use Rattle.ipcz_world.proofs.code.StatesOfNodes.{world_is}
use Rattle.ipcz_world.proofs.Vocabulary.{World}
use Rattle.ipcz_world.proofs.code.Regular.{stranger}
use Rattle.ipcz_world.proofs.code.Regular.{stranger-gives}
use Rattle.ipcz_world.proofs.state.State.step.Goals as goal

pub returns-then-node_of-self-clause-stepped : goal.returns-then-node_of-self-clause-stepped
returns-then-node_of-self-clause-stepped c =
    let many : c.self.inside.count ≡ c.args.self.now.world.count = ap (λ (w : World). w.count) (world_is c.self.view_is) in
    stranger c.args.self.now.world c.args.step.now (omega (arith, many, c.if-node_of-self.true, c.node_of.ensures))

pub returns-then-node_of-self-clause-full : goal.returns-then-node_of-self-clause-full
returns-then-node_of-self-clause-full c = λ room.
    let many : c.self.inside.count ≡ c.args.self.now.world.count = ap (λ (w : World). w.count) (world_is c.self.view_is) in
    stranger-gives c.args.self.now.world c.args.step.now (omega (arith, many, c.if-node_of-self.true, c.node_of.ensures))
