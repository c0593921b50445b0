use Rattle.std.proofs.Common.{refl}
use Rattle.ipcz_c.specs.Told.{nothing}
use Rattle.ipcz_c.proofs.Answering.{answered}
use Rattle.ipcz_c.proofs.calls.ipcz_turn.Goals as goal

pub returns-clause-did : goal.returns-clause-did
returns-clause-did c = λ has. answered nothing _ _ _ _ c.step-reply.result _ refl c.step-reply.ensures.step c.step-reply.ensures.lawful c.step-reply.ensures.plain c.status.ensures tt
