use Rattle.std.proofs.Common.{◌≡◌, ap, subst, sym, ◌∙◌}
use Rattle.ipcz_base.specs.declared.item.Item.TheVariants.{Parcel}
use Rattle.ipcz_node.specs.Finding.{is_ready}
use Rattle.ipcz_node.specs.Directories.{ends_inside}
use Rattle.ipcz_node.proofs.Holding.{hold_kept}
use Rattle.ipcz_node.proofs.Refiling.{StaysFiled, flag_room, flag_changed, put_stays, same_stays}
use Rattle.ipcz_node.proofs.Dryness.{dry_kept}
use Rattle.ipcz_node.proofs.Readiness.{ready_kept}
use Rattle.ipcz_node.proofs.directory.Directory.put.Goals as goal

pub follow-requires-clause-room : goal.follow-requires-clause-room
follow-requires-clause-room c down =
    let r = c.router_mut-router.result.now.router in
    flag_room _ c.args.serial r r (same_stays r) c.self.inside.files.links c.self.inside.files.terminals c.self.inside.files.flagged c.self.inside.files.flagged
    c.self.inside.room c.self.inside.more c.self.inside.routers.room (sym c.router_mut-router.ensures.value) c.self.invariant.0
    (sym c.is_flagged-was.ensures ∙ down)

pub invariant_of-self-2 : goal.invariant_of-self-2
invariant_of-self-2 c =
    let r = c.router_mut-router.result.now.router in
    let w = c.put.new.self.router in
    let stays : StaysFiled r w = subst (StaysFiled r) (sym c.in_ok-n.ensures.ok) (put_stays r (Parcel c.args.parcel)) in
    let same : ends_inside w ≡ ends_inside r = ap ends_inside c.in_ok-n.ensures.ok in (
      flag_changed _ c.args.serial r w stays _ _ _ _ c.self.inside.room c.self.inside.more c.self.inside.routers.room
          (sym c.router_mut-router.ensures.value) c.self.invariant.0 _ _ c.is_flagged-was.ensures c.is_flagged-is.ensures
          c.follow.ensures.members c.follow.ensures.room,
      hold_kept _ c.args.serial r w c.self.inside.ends c.self.inside.room c.self.inside.held.room
          (sym c.router_mut-router.ensures.value) same c.self.invariant.1,
      dry_kept _ _ c.args.serial r w (sym c.router_mut-router.ensures.value) (ap (λ x. x.dry) c.in_ok-n.ensures.ok) c.self.invariant.2,
      ready_kept _ c.args.serial r w _ _ _ (sym c.router_mut-router.ensures.value) (ap is_ready c.in_ok-n.ensures.ok) c.self.invariant.3,
    )
