use Rattle.ipcz_fabric.proofs.Locking.{asked}
use Rattle.ipcz_fabric.proofs.hub.Hub.lock.Goals as goal

pub returns-then-node : goal.returns-then-node
returns-then-node g c = asked g.F.FabricName.table _ _ _ _ c.deref.ensures c.node.ensures.node c.node.ensures.sound c.if-node.true c.requires
