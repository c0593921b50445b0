use Rattle.std.proofs.Common.{refl}
use Rattle.ipcz_fabric.proofs.Locking.{lent}
use Rattle.ipcz_fabric.proofs.caller.Caller.acts.Goals as goal

pub returns-clause-answer : goal.returns-clause-answer
returns-clause-answer g c = λ _. record {
  cell = c.deref_mut.result.now;
  here = lent g.F.FabricName.table _ _ _ _ refl c.deref_mut.ensures.value c.lock.ensures;
  holds = (c.acts-answer.ensures.did.0, c.acts-answer.ensures.did.1);
}
