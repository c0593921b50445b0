use Rattle.std.proofs.Common.{◌<◌, subst}
use Rattle.ipcz_world.specs.Steps.{first_step}
use Rattle.ipcz_world.specs.Taking.{node_of}
use Rattle.ipcz_world.proofs.code.Calling.{here-node}
use Rattle.ipcz_world.proofs.state.State.step_here.Goals as goal

pub returns-in-Open-clause-stepped : goal.returns-in-Open-clause-stepped
unfolding node_of
returns-in-Open-clause-stepped c =
    let l = subst (λ s. node_of s < c.args.self.now.world.count) c.in-Open.is c.requires.node in
    rw (c.in-Open.is, here-node c.args.self.now.world c.in-Open.node _ l) c.open.ensures.opened

pub returns-in-Open-clause-full : goal.returns-in-Open-clause-full
unfolding node_of first_step
returns-in-Open-clause-full c =
    let l = subst (λ s. node_of s < c.args.self.now.world.count) c.in-Open.is c.requires.node in
    rw (c.in-Open.is, here-node c.args.self.now.world c.in-Open.node _ l) c.open.ensures.full

pub returns-in-Get-clause-full : goal.returns-in-Get-clause-full
unfolding first_step
returns-in-Get-clause-full c = rw c.in-Get.is (λ room. c.get.ensures)

pub returns-in-Close-clause-full : goal.returns-in-Close-clause-full
unfolding first_step
returns-in-Close-clause-full c = rw c.in-Close.is c.close.ensures.full
