use Rattle.std.proofs.Common.{refl}
use Rattle.ipcz_c.specs.Told.{IsActed}
use Rattle.ipcz_c.proofs.Answering.{answered}
use Rattle.ipcz_c.proofs.calls.ipcz_act.Goals as goal

pub returns-clause-did : goal.returns-clause-did
returns-clause-did c = λ has. answered (λ reply. IsActed reply c.args.acted.now c.tell_acted.new.acted) _ _ _ _ c.step-turned.result _ refl
    c.step-turned.ensures.step c.step-turned.ensures.lawful c.step-turned.ensures.plain c.status.ensures c.tell_acted.ensures
