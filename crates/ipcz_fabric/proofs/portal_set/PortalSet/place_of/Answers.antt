use Rattle.std.proofs.Common.{◌≡◌, ◌≢◌, ◌∙◌, List, length, subst, sym, IfSome}
use Rattle.ipcz_fabric.specs.Portals.{PortalValue, portal_at}
use Rattle.ipcz_fabric.specs.Readiness.{EachBefore, IsThere}
use Rattle.ipcz_fabric.proofs.PortalSets.{found_first, found_there, noted_nowhere}
use Rattle.ipcz_fabric.proofs.portal_set.PortalSet.place_of.Goals as goal

pub returns-clause-there : goal.returns-clause-there
returns-clause-there g c =
    subst (λ (ps : List PortalValue). IfSome c.copied.result (λ place. IsThere ps place (λ p. p ≡ portal_at c.args.node c.args.end))) c.self.view_is
    (found_there g.F.FabricName.table.count c.self.inside.portals.items c.self.inside.places c.self.inside.nodes.items c.self.invariant c.args.node c.args.end
    c.copied.result (c.copied.ensures ∙ c.get.ensures.value))

pub returns-clause-first : goal.returns-clause-first
returns-clause-first g c =
    subst (λ (ps : List PortalValue). IfSome c.copied.result (λ place. EachBefore ps place (λ p. p ≢ portal_at c.args.node c.args.end))) c.self.view_is
    (found_first g.F.FabricName.table.count c.self.inside.portals.items c.self.inside.places c.self.inside.nodes.items c.self.invariant c.args.node c.args.end
    c.copied.result (c.copied.ensures ∙ c.get.ensures.value))

pub returns-clause-none : goal.returns-clause-none
returns-clause-none g c = λ none.
    subst (λ (ps : List PortalValue). EachBefore ps (length ps) (λ p. p ≢ portal_at c.args.node c.args.end)) c.self.view_is
    (noted_nowhere g.F.FabricName.table.count c.self.inside.portals.items c.self.inside.places c.self.inside.nodes.items c.self.invariant c.args.node c.args.end
    (sym (c.copied.ensures ∙ c.get.ensures.value) ∙ none))
