use Rattle.std.specs.Prelude.{ℕ, Some, length, refl}
use Rattle.std.specs.BTreeMap.{Updates, get}
use Rattle.std.proofs.Common.{◌∙◌, arith, ap, subst, sym}
use Rattle.std.proofs.lemmas.Option.{slice_get_read, slice_get_within}
use Rattle.ipcz_base.specs.declared.end.End.{End}
use Rattle.ipcz_fabric.specs.PortalSets.{key_cmp}
use Rattle.ipcz_fabric.proofs.PortalSets.{key_of, one, some_none}
use Rattle.ipcz_fabric.proofs.portal_set.tell_place.Goals as goal

pub unreachable-requires : goal.unreachable-requires
unreachable-requires c =
    let portals = c.args.portals.now in
    let here = slice_get_read portals (length portals) c.args.place c.index-portals-place.result refl (omega (arith, c.if-place-portals.true)) c.index-portals-place.is in
    some_none (get key_cmp c.args.places.now (key_of c.index-portals-place.result)) (c.requires.known c.index-portals-place.result here)
    (ap (get key_cmp c.args.places.now) (sym c.key.ensures) ∙ c.in_default.ensures.absent)

pub returns-in-Ok-clause-told : goal.returns-in-Ok-clause-told
returns-in-Ok-clause-told c = λ p is.
    let portals = c.args.portals.now in
    let here = slice_get_read portals (length portals) c.args.place c.index-portals-place.result refl (omega (arith, c.if-place-portals.true)) c.index-portals-place.is in
    subst (λ (k : ℕ × End). Updates key_cmp c.args.places.now c.insert.new.self k (Some c.args.place)) (c.key.ensures ∙ ap key_of (one here is)) c.in-Ok.ensures.updates

pub returns-else-place-portals-clause-told : goal.returns-else-place-portals-clause-told
returns-else-place-portals-clause-told c = λ p is. absurd (omega (arith, c.if-place-portals.false, slice_get_within c.args.portals.now c.args.place p is))
