use Rattle.std.proofs.Common.{refl}
use Rattle.ipcz_fabric.proofs.Locking.{lent}
use Rattle.ipcz_fabric.proofs.caller.Caller.turn.Goals as goal

pub returns-then-node-nodes-clause-answer : goal.returns-then-node-nodes-clause-answer
returns-then-node-nodes-clause-answer g c = λ _. record {
  cell = c.deref_mut.result.now;
  here = lent g.F.FabricName.table _ _ _ _ refl c.deref_mut.ensures.value c.lock.ensures;
  holds = (c.turn-answer.ensures.did.0, c.turn-answer.ensures.did.1);
}
