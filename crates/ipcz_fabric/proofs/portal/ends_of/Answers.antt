use Rattle.std.proofs.Common.{◌∙◌, ◌++◌, ◌∷◌, [], ap}
use Rattle.ipcz_fabric.specs.Portals.{PortalValue}
use Rattle.ipcz_fabric.proofs.Portaling.{ends_more, ends_all}
use Rattle.ipcz_fabric.proofs.portal.ends_of.Goals as goal

pub loop-portal-preserved : goal.loop-portal-preserved
loop-portal-preserved g c = ends_more c.args.portals.now c.loop-portal.portal-index c.portal-item.result c.loop-portal.ends.items c.push.new.self.items
    c.loop-portal-test.true c.portal-item.is c.loop-portal.invariant
    (c.in_ok-push.ensures.items ∙ ap (λ (p : PortalValue). c.loop-portal.ends.items ++ p.end ∷ []) c.portal.view_is)

pub returns-clause-ends : goal.returns-clause-ends
returns-clause-ends g c = c.from_vec.ensures ∙ ends_all c.args.portals.now c.loop-portal.portal-index c.loop-portal.ends.items c.loop-portal-test.false
    c.loop-portal.auto.portal-index-end c.loop-portal.invariant
