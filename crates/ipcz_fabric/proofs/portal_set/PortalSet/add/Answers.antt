use Rattle.std.specs.Prelude.{◌≢◌, ◌++◌, [], ◌∷◌, ℕ, List, Some, length, slice_get}
use Rattle.std.specs.BTreeMap.{Updates}
use Rattle.std.proofs.Common.{◌∙◌, ap, ap₂, subst, sym}
use Rattle.ipcz_fabric.specs.Portals.{PortalValue, portal_at}
use Rattle.ipcz_fabric.specs.PortalSets.{AreNoted, key_cmp}
use Rattle.ipcz_fabric.specs.Readiness.{EachBefore}
use Rattle.ipcz_fabric.proofs.PortalSets.{noted_more}
use Rattle.ipcz_fabric.proofs.portal_set.PortalSet.add.Goals as goal

pub invariant_of-self-2 : goal.invariant_of-self-2
invariant_of-self-2 g c =
    let count = g.F.FabricName.table.count in
    let old = c.self.inside in
    let node = c.place-node.result in
    let added = portal_at node c.end-end.result in
    let nodes_are = c.reserve-2.ensures.items in
    subst (λ (ps : List PortalValue). AreNoted count ps c.insert.new.self c.add_node.new.nodes.items)
    (sym (c.push_reserved.ensures.items ∙ ap₂ (λ (ps : List PortalValue) (p : PortalValue). ps ++ p ∷ []) c.reserve.ensures.items c.new.ensures))
    (noted_more count old.portals.items old.places old.nodes.items c.self.invariant c.insert.new.self c.add_node.new.nodes.items added
    (subst (λ (ps : List PortalValue). EachBefore ps (length ps) (λ q. q ≢ added)) (sym c.self.view_is) (c.place_of.ensures.none c.in_default.is))
    (subst (λ (i : ℕ). Updates key_cmp old.places c.insert.new.self (node, c.end-end.result) (Some i)) (c.len-place.ensures ∙ old.portals.ok.0) c.in_ok-insert.ensures.updates)
    c.add_node.ensures.there
    (λ j k is. c.add_node.ensures.kept j k (ap (λ (ns : List ℕ). slice_get ns j) nodes_are ∙ is))
    (λ j k is other. ap (λ (ns : List ℕ). slice_get ns j) (sym nodes_are) ∙ c.add_node.ensures.inside j k is other)
    c.place-node.ensures.inside)
