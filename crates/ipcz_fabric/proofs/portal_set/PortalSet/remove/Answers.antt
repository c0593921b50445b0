use Rattle.std.specs.Prelude.{◌≡◌, ◌<◌, ◌≤◌, ℕ, List, None, Some, length, slice_get}
use Rattle.std.specs.BTreeMap.{Updates}
use Rattle.std.proofs.Common.{◌∙◌, arith, ap, subst, sym}
use Rattle.std.proofs.lemmas.Option.{slice_get_read}
use Rattle.ipcz_base.specs.declared.end.End.{End}
use Rattle.ipcz_fabric.specs.Portals.{PortalValue}
use Rattle.ipcz_fabric.specs.PortalSets.{IsRemoved, key_cmp}
use Rattle.ipcz_fabric.proofs.PortalSets.{is_removed, known_moved, noted_less}
use Rattle.ipcz_fabric.proofs.portal_set.PortalSet.remove.Goals as goal

pub tell_place-requires : goal.tell_place-requires
tell_place-requires g c =
    let old = c.self.inside in
    let new = c.swap_remove.new.self in
    let r = c.swap_remove.result in
    let within : c.args.place < old.portals.len = omega (arith, c.if-place-len.false, c.len.ensures) in
    let here : slice_get old.portals.items c.args.place ≡ Some r =
    slice_get_read old.portals.items old.portals.len c.args.place r old.portals.ok.0 within c.swap_remove.ensures.value in
    let removed : IsRemoved old.portals.items c.args.place new.items =
    is_removed old.portals.items new.items c.args.place r old.portals.len new.len old.portals.ok.0 new.ok.0 within c.swap_remove.ensures.len
    (c.swap_remove.ensures.by_index.0 r) (λ k. c.swap_remove.ensures.by_index.1 k r) in
    let without = subst (λ (k : ℕ × End). Updates key_cmp old.places c.remove.new.self k None) c.key-node.ensures c.remove.ensures.updates in
    record {
      known = λ p is. known_moved g.F.FabricName.table.count old.portals.items old.places old.nodes.items c.self.invariant c.args.place r new.items c.remove.new.self here
          removed without p (ap (λ (ps : List PortalValue). slice_get ps c.args.place) (sym c.as_slice.ensures.value) ∙ is);
    }

pub invariant_of-self : goal.invariant_of-self
invariant_of-self g c =
    let old = c.self.inside in
    let new = c.swap_remove.new.self in
    let r = c.swap_remove.result in
    let within : c.args.place < old.portals.len = omega (arith, c.if-place-len.false, c.len.ensures) in
    let here : slice_get old.portals.items c.args.place ≡ Some r =
    slice_get_read old.portals.items old.portals.len c.args.place r old.portals.ok.0 within c.swap_remove.ensures.value in
    let removed : IsRemoved old.portals.items c.args.place new.items =
    is_removed old.portals.items new.items c.args.place r old.portals.len new.len old.portals.ok.0 new.ok.0 within c.swap_remove.ensures.len
    (c.swap_remove.ensures.by_index.0 r) (λ k. c.swap_remove.ensures.by_index.1 k r) in
    let without = subst (λ (k : ℕ × End). Updates key_cmp old.places c.remove.new.self k None) c.key-node.ensures c.remove.ensures.updates in
    noted_less g.F.FabricName.table.count old.portals.items old.places old.nodes.items c.self.invariant c.args.place r new.items c.remove.new.self here removed without
    c.tell_place.new.places c.forget_node.new.nodes.items
    (λ p is. c.tell_place.ensures.told p (ap (λ (ps : List PortalValue). slice_get ps c.args.place) c.as_slice.ensures.value ∙ is))
    (λ past. c.tell_place.ensures.none (subst (λ (ps : List PortalValue). length ps ≤ c.args.place) (sym c.as_slice.ensures.value) past))
    (λ k j p is. c.forget_node.ensures.kept k j p (ap (λ (ps : List PortalValue). slice_get ps k) c.as_slice-2.ensures.value ∙ is))
    c.forget_node.ensures.inside

pub returns : goal.returns
returns g c =
    let old = c.self.inside in
    let new = c.swap_remove.new.self in
    let within : c.args.place < old.portals.len = omega (arith, c.if-place-len.false, c.len.ensures) in
    subst (λ (ps : List PortalValue). IsRemoved ps c.args.place new.items) c.self.view_is
    (is_removed old.portals.items new.items c.args.place c.swap_remove.result old.portals.len new.len old.portals.ok.0 new.ok.0 within c.swap_remove.ensures.len
    (c.swap_remove.ensures.by_index.0 c.swap_remove.result) (λ k. c.swap_remove.ensures.by_index.1 k c.swap_remove.result))
