use Rattle.std.proofs.Common.{subst}
use Rattle.ipcz_fabric.specs.PortalSets.{AreOnce}
use Rattle.ipcz_fabric.proofs.PortalSets.{noted_once}
use Rattle.ipcz_fabric.proofs.portal_set.PortalSet.len.Goals as goal

pub returns-clause-once : goal.returns-clause-once
returns-clause-once g c = subst AreOnce c.self.view_is (noted_once g.F.FabricName.table.count c.self.inside.portals.items c.self.inside.places c.self.inside.nodes.items c.self.invariant)
