use Rattle.std.proofs.Common.{ap, sym, ◌∙◌, subst}
use Rattle.ipcz_node.specs.Finding.{is_ready}
use Rattle.ipcz_node.specs.Directories.{ends_inside}
use Rattle.ipcz_node.proofs.Holding.{hold_kept}
use Rattle.ipcz_node.proofs.Refiling.{StaysFiled, flag_was, flag_room, flag_changed, same_stays}
use Rattle.ipcz_node.proofs.Standings.{hear_stays, hear_inside}
use Rattle.ipcz_node.proofs.Dryness.{dry_kept, hear_dry}
use Rattle.ipcz_node.proofs.Readiness.{ready_kept, hear_ready}
use Rattle.ipcz_node.proofs.directory.Directory.hear_in_place.Goals as goal

pub follow-requires-clause-was : goal.follow-requires-clause-was
follow-requires-clause-was c =
    let r = c.router_mut-router.result.now.router in
    flag_was _ c.args.serial r r (same_stays r) c.self.inside.files.links c.self.inside.files.terminals c.self.inside.files.flagged c.self.inside.files.flagged
    c.self.inside.room c.self.inside.more c.self.inside.routers.room (sym c.router_mut-router.ensures.value) c.self.invariant.0
    ∙ sym c.is_flagged-was.ensures

pub follow-requires-clause-room : goal.follow-requires-clause-room
follow-requires-clause-room c down =
    let r = c.router_mut-router.result.now.router in
    flag_room _ c.args.serial r r (same_stays r) c.self.inside.files.links c.self.inside.files.terminals c.self.inside.files.flagged c.self.inside.files.flagged
    c.self.inside.room c.self.inside.more c.self.inside.routers.room (sym c.router_mut-router.ensures.value) c.self.invariant.0
    (sym c.is_flagged-was.ensures ∙ down)

pub invariant_of-self : goal.invariant_of-self
invariant_of-self c =
    let r = c.router_mut-router.result.now.router in
    let w = c.hear-answer.new.router.router in
    let m = c.args.message.now in
    let stays : StaysFiled r w = subst (StaysFiled r) (sym c.hear-answer.ensures.router) (hear_stays r c.args.sender m c.requires.none) in (
      flag_changed _ c.args.serial r w stays _ _ _ _ c.self.inside.room c.self.inside.more c.self.inside.routers.room
          (sym c.router_mut-router.ensures.value) c.self.invariant.0 _ _ c.is_flagged-was.ensures c.is_flagged-is.ensures
          c.follow.ensures.members c.follow.ensures.room,
      hold_kept _ c.args.serial r w c.self.inside.ends c.self.inside.room c.self.inside.held.room (sym c.router_mut-router.ensures.value)
          (ap ends_inside c.hear-answer.ensures.router ∙ hear_inside r c.args.sender m) c.self.invariant.1,
      dry_kept _ _ c.args.serial r w (sym c.router_mut-router.ensures.value) (ap (λ x. x.dry) c.hear-answer.ensures.router ∙ hear_dry r c.args.sender m) c.self.invariant.2,
      ready_kept _ c.args.serial r w _ _ _ (sym c.router_mut-router.ensures.value) (ap is_ready c.hear-answer.ensures.router ∙ hear_ready r c.args.sender m) c.self.invariant.3,
    )
