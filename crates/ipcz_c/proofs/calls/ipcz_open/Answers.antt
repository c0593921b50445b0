use Rattle.std.proofs.Common.{refl}
use Rattle.ipcz_c.specs.Told.{AreOpened}
use Rattle.ipcz_c.proofs.Answering.{answered}
use Rattle.ipcz_c.proofs.calls.ipcz_open.Goals as goal

pub returns-clause-did : goal.returns-clause-did
returns-clause-did c = λ has. answered (λ reply. AreOpened reply c.args.first.now c.args.second.now c.tell_opened.new.first c.tell_opened.new.second) _ _ _ _ c.step-reply.result _ refl
    c.step-reply.ensures.step c.step-reply.ensures.lawful c.step-reply.ensures.plain c.status.ensures c.tell_opened.ensures
