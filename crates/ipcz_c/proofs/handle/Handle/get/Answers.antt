use Rattle.std.proofs.Common.{◌≡◌, subst, sym}
use Rattle.ipcz_world.specs.World.{World}
use Rattle.ipcz_world.specs.Steps.{next_sizes, sizes_given}
use Rattle.ipcz_c.specs.Calls.{sizes_next}
use Rattle.ipcz_world.specs.declared.step.Step.TheVariants as steps
use Rattle.ipcz_c.proofs.Answering.{plainly, sizes_are_given}
use Rattle.ipcz_world.proofs.code.StatesOfNodes.{world_is}
use Rattle.ipcz_c.proofs.handle.Handle.get.Goals as goal

pub returns-clause-plain : goal.returns-clause-plain
returns-clause-plain c = plainly (steps.Get c.args.node c.args.at) c.get-reply.result _ _ _ c.take-world.ensures.world (world_is c.deref_mut.ensures.value) c.get-reply.ensures.plain

pub returns-clause-sizes : goal.returns-clause-sizes
unfolding sizes_next
returns-clause-sizes c = subst (λ old. sizes_given c.get-reply.result ≡ sizes_next old c.args.node c.args.at) (sym c.take-world.ensures.world)
    (subst (λ (w : World). sizes_given c.get-reply.result ≡ next_sizes w c.args.node c.args.at) (world_is c.deref_mut.ensures.value)
    (sizes_are_given _ _ c.args.node c.args.at c.get-reply.result c.get-reply.ensures.step))
