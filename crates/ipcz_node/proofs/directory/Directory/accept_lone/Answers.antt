use Rattle.std.proofs.Common.{◌≡◌, Bool, true, false, List, [], length, if◌then◌else◌, refl, sym, subst, ap, ◌∙◌, arith}
use Rattle.ipcz_base.specs.declared.end.End.{End}
use Rattle.ipcz_base.specs.Items.{ends_in}
use Rattle.std.specs.Prelude.{IsSomeAnd}
use Rattle.std.specs.FinMap.{get, insert}
use Rattle.ipcz_router.specs.Router.{Router, outward_has, router_has}
use Rattle.ipcz_node.specs.Directories.{ends_brought, ends_inside}
use Rattle.ipcz_node.proofs.Holding.{hold_kept, brought_inside}
use Rattle.ipcz_node.proofs.Refiling.{StaysFiled, flag_room, flag_changed, accept_stays, same_stays}
use Rattle.ipcz_node.proofs.Dryness.{dry_kept, accept_dry}
use Rattle.ipcz_node.proofs.Readiness.{HasCome, accept_comes, holds_at, ready_has_room, ready_noted}
use Rattle.ipcz_node.proofs.Written.{insert_same}
use Rattle.ipcz_node.proofs.directory.Directory.accept_lone.Goals as goal

none_of : (b : Bool) (es : List End) → es ≡ [] → (if b then length es else 0) ≡ 0
none_of true es none = ap length none
none_of false es none = refl

pub follow-requires-clause-room : goal.follow-requires-clause-room
follow-requires-clause-room c down =
    let r = c.router_mut-router.result.now.router in
    flag_room _ c.args.serial r r (same_stays r) c.self.inside.files.links c.self.inside.files.terminals c.self.inside.files.flagged c.self.inside.files.flagged
    c.self.inside.room c.self.inside.more c.self.inside.routers.room (sym c.router_mut-router.ensures.value) c.self.invariant.0
    (sym c.is_flagged-was.ensures ∙ down)

-- what is refused leaves the router as it was
pub invariant_of-self : goal.invariant_of-self
invariant_of-self c =
    let m = c.self.inside.routers.routers in
    let r = c.router_mut-router.result.now.router in
    let same : insert m c.args.serial c.accept_from.new.self.router ≡ m =
    ap (insert m c.args.serial) c.in_err-accept_from.ensures.err.1 ∙ insert_same m c.args.serial r (sym c.router_mut-router.ensures.value) in
    rw same c.self.invariant

pub invariant_of-self-2 : goal.invariant_of-self-2
invariant_of-self-2 c =
    let r = c.router_mut-router.result.now.router in
    let w = c.accept_from.new.self.router in
    let from_outward = outward_has r c.args.link c.args.side in
    let item = c.args.item.now in
    let here = sym c.router_mut-router.ensures.value in
    let ok = c.in_ok-accept_from.ensures.ok in
    let brought : ends_brought r from_outward c.args.n item ≡ 0 = none_of _ (ends_in item) c.requires.alone in
    let stands : router_has r c.args.link c.args.side ≡ true = holds_at (λ x. router_has x c.args.link c.args.side ≡ true) _ r here
    (subst (λ v. IsSomeAnd (get v.filed.routers c.args.serial) (λ (x : Router). router_has x c.args.link c.args.side ≡ true))
    (sym c.self.view_is) c.requires.stands) in
    let come : HasCome r w c.args.n = subst (λ x. HasCome r x c.args.n) (sym ok)
    (accept_comes r c.args.link c.args.side c.args.n item stands c.in_ok-accept_from.ensures.place) in
    let stays : StaysFiled r w = subst (StaysFiled r) (sym ok) (accept_stays r from_outward c.args.n item) in
    let same : ends_inside w ≡ ends_inside r =
    ap ends_inside ok ∙ brought_inside r from_outward c.args.n item c.in_ok-accept_from.ensures.place ∙ omega (arith, brought) in (
      flag_changed _ c.args.serial r w stays _ _ _ _ c.self.inside.room c.self.inside.more c.self.inside.routers.room here
          c.self.invariant.0 _ _ c.is_flagged-was.ensures c.is_flagged-is.ensures c.follow.ensures.members c.follow.ensures.room,
      hold_kept _ c.args.serial r w c.self.inside.ends c.self.inside.room c.self.inside.held.room here same c.self.invariant.1,
      dry_kept _ _ c.args.serial r w (sym c.router_mut-router.ensures.value) (ap (λ x. x.dry) ok ∙ accept_dry r from_outward c.args.n item) c.self.invariant.2,
      ready_noted _ c.args.serial r w c.args.n _ _ _ _ c.is_new-is_new.result _ here come c.is_new-is_new.ensures c.note.ensures.latest
          c.note.ensures.members c.note.ensures.room c.self.invariant.3,
    )

pub note-requires : goal.note-requires
note-requires c = ready_has_room _ c.args.serial c.accept_from.new.self.router c.args.n _ _ _ c.is_new-is_new.result c.is_new-is_new.ensures
    c.self.invariant.3
