use Rattle.std.proofs.Common.{◌≡◌, ◌+◌, ◌&&◌, true, is_some, sym, ◌∙◌, ap, ap₂, arith}
use Rattle.std.specs.Prelude.{IsSomeAnd}
use Rattle.std.specs.FinMap.{get}
use Rattle.ipcz_router.specs.Router.{is_open_terminal, IsOpenTerminal}
use Rattle.ipcz_node.specs.Finding.{is_ready}
use Rattle.ipcz_node.specs.Directories.{ends_inside}
use Rattle.ipcz_node.proofs.Refiling.{StaysFiled, flag_was, flag_room, flag_changed, take_stays, same_stays}
use Rattle.std.proofs.Common.{subst, ◌≤◌, length}
use Rattle.ipcz_base.specs.declared.item.Item.TheVariants.{Parcel}
use Rattle.ipcz_node.proofs.Holding.{hold_kept, hold_spent, inside_one, taken_inside}
use Rattle.ipcz_node.proofs.Dryness.{dry_kept}
use Rattle.ipcz_node.proofs.Readiness.{holds_at, ready_filed, ready_got, ready_kept}
use Rattle.ipcz_node.proofs.directory.Directory.get.Goals as goal

pub follow-requires-clause-was : goal.follow-requires-clause-was
follow-requires-clause-was c =
    let r = c.router_mut-router.result.now.router in
    flag_was _ c.args.serial r r (same_stays r) c.self.inside.files.links c.self.inside.files.terminals c.self.inside.files.flagged c.self.inside.files.flagged
    c.self.inside.room c.self.inside.more c.self.inside.routers.room (sym c.router_mut-router.ensures.value) c.self.invariant.0
    ∙ sym c.is_flagged-was.ensures

pub follow-requires-clause-room : goal.follow-requires-clause-room
follow-requires-clause-room c down =
    let r = c.router_mut-router.result.now.router in
    flag_room _ c.args.serial r r (same_stays r) c.self.inside.files.links c.self.inside.files.terminals c.self.inside.files.flagged c.self.inside.files.flagged
    c.self.inside.room c.self.inside.more c.self.inside.routers.room (sym c.router_mut-router.ensures.value) c.self.invariant.0
    (sym c.is_flagged-was.ensures ∙ down)

pub invariant_of-self : goal.invariant_of-self
invariant_of-self c =
    let r = c.router_mut-router.result.now.router in
    let w = c.get-answer.new.self.router in
    let same : w ≡ r = c.in_err-n.ensures.err in
    let stays : StaysFiled r w = subst (StaysFiled r) (sym same) (same_stays r) in (
      flag_changed _ c.args.serial r w stays _ _ _ _ c.self.inside.room c.self.inside.more c.self.inside.routers.room
          (sym c.router_mut-router.ensures.value) c.self.invariant.0 _ _ c.is_flagged-was.ensures c.is_flagged-is.ensures
          c.follow.ensures.members c.follow.ensures.room,
      hold_kept _ c.args.serial r w c.self.inside.ends c.self.inside.room c.self.inside.held.room
          (sym c.router_mut-router.ensures.value) (ap ends_inside same) c.self.invariant.1,
      dry_kept _ _ c.args.serial r w (sym c.router_mut-router.ensures.value) (ap (λ x. x.dry) same) c.self.invariant.2,
      ready_kept _ c.args.serial r w _ _ _ (sym c.router_mut-router.ensures.value) (ap is_ready same) c.self.invariant.3,
    )

pub drop_ended-requires : goal.drop_ended-requires
drop_ended-requires c =
    let r = c.router_mut-router.result.now.router in
    let here = sym c.router_mut-router.ensures.value in
    let opened : is_open_terminal r ≡ true =
    holds_at IsOpenTerminal _ r here (subst (λ v. IsSomeAnd (get v.filed.routers c.args.serial) IsOpenTerminal) (sym c.self.view_is) c.requires) in
    let ready : is_ready r ≡ true = ap₂ (λ a b. a && b) (ap is_some c.in_ok-n.ensures.parcel) opened in
    ready_filed _ c.args.serial r _ _ _ c.has_ended-has_ended.result here (λ is. ready) c.self.invariant.3

pub insert_all-requires : goal.insert_all-requires
insert_all-requires c =
    let r = c.router_mut-router.result.now.router in
    let out = taken_inside r (Parcel c.in_ok-n.parcel) c.in_ok-n.ensures.parcel in
    omega (
      arith,
      ap length c.as_slice.ensures,
      out,
      inside_one _ c.args.serial r c.self.inside.ends c.self.inside.room
          c.self.inside.held.room (sym c.router_mut-router.ensures.value) c.self.invariant.1,
      c.self.invariant.1.room,
    )

pub invariant_of-self-2 : goal.invariant_of-self-2
invariant_of-self-2 c =
    let r = c.router_mut-router.result.now.router in
    let w = c.get-answer.new.self.router in
    let stays : StaysFiled r w = subst (StaysFiled r) (sym c.in_ok-n.ensures.ok) (take_stays r) in
    let here = sym c.router_mut-router.ensures.value in
    let opened : is_open_terminal r ≡ true =
    holds_at IsOpenTerminal _ r here (subst (λ v. IsSomeAnd (get v.filed.routers c.args.serial) IsOpenTerminal) (sym c.self.view_is) c.requires) in
    let ready : is_ready r ≡ true = ap₂ (λ a b. a && b) (ap is_some c.in_ok-n.ensures.parcel) opened in
    let fewer : ends_inside w + c.len.result ≤ ends_inside r =
    omega (
      arith,
      ap ends_inside c.in_ok-n.ensures.ok,
      taken_inside r (Parcel c.in_ok-n.parcel) c.in_ok-n.ensures.parcel,
      c.len.ensures,
    ) in (
      flag_changed _ c.args.serial r w stays _ _ _ _ c.self.inside.room c.self.inside.more c.self.inside.routers.room
          (sym c.router_mut-router.ensures.value) c.self.invariant.0 _ _ c.is_flagged-was.ensures c.is_flagged-is.ensures
          c.follow.ensures.members c.follow.ensures.room,
      hold_spent _ c.args.serial r w c.self.inside.ends _ c.len.result c.self.inside.room c.self.inside.held.room
          c.insert_all.new.self.room (sym c.router_mut-router.ensures.value) fewer c.saturating_sub-self-inside.ensures
          (omega (arith, c.insert_all.ensures.room, ap length c.as_slice.ensures, c.len.ensures)) c.self.invariant.1,
      dry_kept _ _ c.args.serial r w (sym c.router_mut-router.ensures.value) (ap (λ x. x.dry) c.in_ok-n.ensures.ok) c.self.invariant.2,
      ready_got _ c.args.serial r w _ _ _ _ c.has_ended-has_ended.result _ here ready (ap is_open_terminal c.in_ok-n.ensures.ok ∙ opened)
          c.has_ended-has_ended.ensures c.drop_ended.ensures.latest
          c.drop_ended.ensures.members c.drop_ended.ensures.room c.self.invariant.3,
    )
