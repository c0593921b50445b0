use Rattle.std.proofs.Common.{◌≡◌, ◌+◌, true, refl, sym, subst, ap, ◌∙◌, arith}
use Rattle.std.specs.Prelude.{IsSomeAnd}
use Rattle.std.specs.FinMap.{get}
use Rattle.ipcz_node.specs.Finding.{is_ready}
use Rattle.ipcz_node.specs.Directories.{ends_inside}
use Rattle.ipcz_router.specs.Router.{Router, outward_has, router_has}
use Rattle.ipcz_node.proofs.Holding.{hold_changed, hold_kept, hold_more, brought_inside}
use Rattle.ipcz_node.proofs.Refiling.{StaysFiled, flag_was, flag_room, flag_changed, accept_stays, same_stays}
use Rattle.ipcz_node.proofs.Dryness.{dry_kept, accept_dry}
use Rattle.ipcz_node.proofs.Readiness.{HasCome, accept_comes, holds_at, ready_has_room, ready_kept, ready_noted}
use Rattle.ipcz_node.proofs.directory.Directory.accept.Goals as goal

pub follow-requires-clause-was : goal.follow-requires-clause-was
follow-requires-clause-was c =
    let r = c.router_mut-router.result.now.router in
    flag_was _ c.args.serial r r (same_stays r) c.self.inside.files.links c.self.inside.files.terminals c.self.inside.files.flagged c.self.inside.files.flagged
    c.self.inside.room c.self.inside.more c.self.inside.routers.room (sym c.router_mut-router.ensures.value) c.self.invariant.0
    ∙ sym c.is_flagged-was.ensures

pub follow-requires-clause-room : goal.follow-requires-clause-room
follow-requires-clause-room c down =
    let r = c.router_mut-router.result.now.router in
    flag_room _ c.args.serial r r (same_stays r) c.self.inside.files.links c.self.inside.files.terminals c.self.inside.files.flagged c.self.inside.files.flagged
    c.self.inside.room c.self.inside.more c.self.inside.routers.room (sym c.router_mut-router.ensures.value) c.self.invariant.0
    (sym c.is_flagged-was.ensures ∙ down)

pub invariant_of-self : goal.invariant_of-self
invariant_of-self c = (
  c.self.invariant.0,
  hold_more _ _ c.self.inside.ends c.self.inside.room c.self.inside.room c.self.inside.held.room _ refl
      (omega (arith, c.self.invariant.1.room, c.make_room.ensures.room)) c.self.invariant.1,
  c.self.invariant.2,
  c.self.invariant.3,
)

pub invariant_of-self-in_err-answer : goal.invariant_of-self-in_err-answer
invariant_of-self-in_err-answer c =
    let r = c.router_mut-router.result.now.router in
    let w = c.accept-answer.new.self.router in
    let here = sym c.router_mut-router.ensures.value in
    let same : w ≡ r = c.in_err-answer.ensures.err.1 in
    let stays : StaysFiled r w = subst (StaysFiled r) (sym same) (same_stays r) in (
      flag_changed _ c.args.serial r w stays _ _ _ _ c.self.inside.room c.self.inside.more c.self.inside.routers.room
          (sym c.router_mut-router.ensures.value) c.self.invariant.0 _ _ c.is_flagged-was.ensures c.is_flagged-is.ensures
          c.follow.ensures.members c.follow.ensures.room,
      hold_more _ _ c.self.inside.ends c.self.inside.room c.self.inside.room c.self.inside.held.room _ refl
          (omega (arith, c.self.invariant.1.room, c.make_room.ensures.room))
          (hold_kept _ c.args.serial r w c.self.inside.ends c.self.inside.room c.self.inside.held.room here (ap ends_inside same)
          c.self.invariant.1),
      dry_kept _ _ c.args.serial r w (sym c.router_mut-router.ensures.value) (ap (λ x. x.dry) same) c.self.invariant.2,
      ready_kept _ c.args.serial r w _ _ _ here (ap is_ready same) c.self.invariant.3,
    )

pub invariant_of-self-2 : goal.invariant_of-self-2
invariant_of-self-2 c =
    let r = c.router_mut-router.result.now.router in
    let w = c.accept-answer.new.self.router in
    let here = sym c.router_mut-router.ensures.value in
    let from_outward = outward_has r c.args.link c.args.side in
    let stays : StaysFiled r w =
    subst (StaysFiled r) (sym c.in_ok-answer.ensures.ok) (accept_stays r from_outward c.args.n c.args.item) in
    let stands : router_has r c.args.link c.args.side ≡ true = holds_at (λ x. router_has x c.args.link c.args.side ≡ true) _ r here
    (subst (λ v. IsSomeAnd (get v.filed.routers c.args.serial) (λ (x : Router). router_has x c.args.link c.args.side ≡ true))
    (sym c.self.view_is) c.requires.stands) in
    let come : HasCome r w c.args.n = subst (λ x. HasCome r x c.args.n) (sym c.in_ok-answer.ensures.ok)
    (accept_comes r c.args.link c.args.side c.args.n c.args.item stands c.in_ok-answer.ensures.place) in
    let more : ends_inside w ≡ ends_inside r + c.ends_to_come-ends.result =
    ap ends_inside c.in_ok-answer.ensures.ok ∙ brought_inside r from_outward c.args.n c.args.item c.in_ok-answer.ensures.place ∙
    ap (λ k. ends_inside r + k)
    (sym (c.ends_to_come-ends.ensures r (ap (λ v. get v.filed.routers c.args.serial) (sym c.self.view_is) ∙ here))) in (
      flag_changed _ c.args.serial r w stays _ _ _ _ c.self.inside.room c.self.inside.more c.self.inside.routers.room
          (sym c.router_mut-router.ensures.value) c.self.invariant.0 _ _ c.is_flagged-was.ensures c.is_flagged-is.ensures
          c.follow.ensures.members c.follow.ensures.room,
      hold_changed _ c.args.serial r w c.self.inside.ends c.in-Some.all c.self.inside.room c.self.inside.held.room _ here
          (omega (arith, more, c.in-Some.ensures.some.0)) c.in-Some.ensures.some.1 c.self.invariant.1,
      dry_kept _ _ c.args.serial r w (sym c.router_mut-router.ensures.value) (ap (λ x. x.dry) c.in_ok-answer.ensures.ok ∙ accept_dry r from_outward c.args.n c.args.item) c.self.invariant.2,
      ready_noted _ c.args.serial r w c.args.n _ _ _ _ c.is_new-is_new.result _ here come c.is_new-is_new.ensures c.note.ensures.latest
          c.note.ensures.members c.note.ensures.room c.self.invariant.3,
    )

pub note-requires : goal.note-requires
note-requires c = ready_has_room _ c.args.serial c.accept-answer.new.self.router c.args.n _ _ _ c.is_new-is_new.result c.is_new-is_new.ensures
    c.self.invariant.3
