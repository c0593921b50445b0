use Rattle.std.proofs.Common.{ap}
use Rattle.ipcz_world.specs.declared.step.Step.TheVariants as steps
use Rattle.ipcz_c.specs.Told.{nothing}
use Rattle.ipcz_c.proofs.Answering.{answered}
use Rattle.ipcz_c.proofs.calls.ipcz_close.Goals as goal

pub returns-clause-did : goal.returns-clause-did
returns-clause-did c = λ has. answered nothing _ _ _ _ c.step-reply.result _ (ap (steps.Close c.args.node) c.end.ensures)
    c.step-reply.ensures.step c.step-reply.ensures.lawful c.step-reply.ensures.plain c.status.ensures tt
