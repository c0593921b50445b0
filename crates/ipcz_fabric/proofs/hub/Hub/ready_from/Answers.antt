use Rattle.std.proofs.Common.{refl}
use Rattle.ipcz_fabric.proofs.Locking.{lent}
use Rattle.ipcz_fabric.proofs.hub.Hub.ready_from.Goals as goal

pub returns-clause-answer : goal.returns-clause-answer
returns-clause-answer g c = λ inside. record {
  cell = c.deref.result.now;
  here = lent g.F.FabricName.table _ _ _ _ refl c.deref.ensures c.lock-desk.ensures;
  holds = c.ready_from.ensures;
}
