use Rattle.std.proofs.Common.{refl}
use Rattle.ipcz_fabric.proofs.HubAnswers.{portals_node, portals_opened, portals_pair, portals_refused}
use Rattle.ipcz_fabric.proofs.Locking.{lent}
use Rattle.ipcz_fabric.proofs.caller.Caller.open_pair.Goals as goal

pub returns-clause-here : goal.returns-clause-here
returns-clause-here g c = portals_node _ _ _ (portals_pair g.F.FabricName.table _ _ _ _ (portals_opened g.F.FabricName.table _ _ _ _ _ c.open_here.ensures.opens).1)

pub returns-clause-pair : goal.returns-clause-pair
returns-clause-pair g c = portals_pair g.F.FabricName.table _ _ _ _ (portals_opened g.F.FabricName.table _ _ _ _ _ c.open_here.ensures.opens).1

pub returns-clause-why : goal.returns-clause-why
returns-clause-why g c = λ _. portals_refused g.F.FabricName.table _ _ _ _ (portals_opened g.F.FabricName.table _ _ _ _ _ c.open_here.ensures.opens).1

pub returns-clause-answer : goal.returns-clause-answer
returns-clause-answer g c = λ _. record {
  cell = c.deref_mut.result.now;
  here = lent g.F.FabricName.table _ _ _ _ refl c.deref_mut.ensures.value c.lock.ensures;
  holds = portals_opened g.F.FabricName.table _ _ _ _ _ c.open_here.ensures.opens;
}
