use Rattle.ipcz_c.proofs.Answering.{plainly}
use Rattle.ipcz_world.proofs.code.StatesOfNodes.{world_is}
use Rattle.ipcz_c.proofs.handle.Handle.step.Goals as goal

pub returns-clause-plain : goal.returns-clause-plain
returns-clause-plain c = plainly c.args.step.now c.step-reply.result _ _ _ c.take-world.ensures.world (world_is c.deref_mut.ensures.value) c.step-reply.ensures.plain
