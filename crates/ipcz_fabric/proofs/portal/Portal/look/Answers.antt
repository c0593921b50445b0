use Rattle.std.proofs.Common.{subst}
use Rattle.ipcz_node.specs.Looking.{IsLook}
use Rattle.ipcz_fabric.specs.Portals.{PortalValue}
use Rattle.ipcz_fabric.proofs.Locking.{lent}
use Rattle.ipcz_fabric.proofs.portal.Portal.look.Goals as goal

pub returns : goal.returns
returns g c = record {
  cell = c.deref.result.now;
  here = lent g.F.FabricName.table _ _ _ _ c.place.ensures.node c.deref.ensures c.lock-desk.ensures;
  holds = subst (λ (p : PortalValue). IsLook c.deref.result.now.part.state p.end c.look.result) c.self.view_is c.look.ensures;
}
