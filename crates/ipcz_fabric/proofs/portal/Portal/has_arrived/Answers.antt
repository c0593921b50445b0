use Rattle.std.proofs.Common.{◌∙◌, ap}
use Rattle.ipcz_node.specs.Arriving.{arrival_of}
use Rattle.ipcz_fabric.specs.Portals.{PortalValue}
use Rattle.ipcz_fabric.proofs.Locking.{lent}
use Rattle.ipcz_fabric.proofs.portal.Portal.has_arrived.Goals as goal

pub returns : goal.returns
returns g c = record {
  cell = c.deref.result.now;
  here = lent g.F.FabricName.table _ _ _ _ c.place.ensures.node c.deref.ensures c.lock-desk.ensures;
  holds = c.has_arrived.ensures ∙ ap (λ (p : PortalValue). arrival_of c.deref.result.now.part.state p.end) c.self.view_is;
}
