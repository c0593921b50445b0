use Rattle.std.proofs.Common.{ap, ◌∙◌, sym, subst, refl}
use Rattle.ipcz_router.specs.ActEffects.{apply}
use Rattle.ipcz_router.specs.declared.act.RouterAct.TheVariants as acts
use Rattle.ipcz_router.specs.declared.act.Answer.TheVariants.{Plain}
use Rattle.ipcz_router.specs.Router.{Router}
use Rattle.ipcz_router.specs.ActTable.{may_take}
use Rattle.std.specs.FinMap.{get}
use Rattle.std.specs.Prelude.{IsSomeAnd, ◌≡◌, true}
use Rattle.ipcz_node.proofs.Carrying.{may_send}
use Rattle.ipcz_node.specs.Finding.{is_ready}
use Rattle.ipcz_node.specs.Directories.{ends_inside, keeps_links}
use Rattle.ipcz_node.proofs.Holding.{hold_kept}
use Rattle.ipcz_node.proofs.Refiling.{StaysFiled, flag_was, flag_room, flag_changed, act_stays, same_stays}
use Rattle.ipcz_node.proofs.Dryness.{dry_kept}
use Rattle.ipcz_node.proofs.Readiness.{ready_kept}
use Rattle.ipcz_node.proofs.directory.Directory.send_out.Goals as goal

pub follow-requires-clause-was : goal.follow-requires-clause-was
follow-requires-clause-was c =
    let r = c.router_mut-router.result.now.router in
    flag_was _ c.args.serial r r (same_stays r) c.self.inside.files.links c.self.inside.files.terminals c.self.inside.files.flagged c.self.inside.files.flagged
    c.self.inside.room c.self.inside.more c.self.inside.routers.room (sym c.router_mut-router.ensures.value) c.self.invariant.0
    ∙ sym c.is_flagged-was.ensures

pub follow-requires-clause-room : goal.follow-requires-clause-room
follow-requires-clause-room c down =
    let r = c.router_mut-router.result.now.router in
    flag_room _ c.args.serial r r (same_stays r) c.self.inside.files.links c.self.inside.files.terminals c.self.inside.files.flagged c.self.inside.files.flagged
    c.self.inside.room c.self.inside.more c.self.inside.routers.room (sym c.router_mut-router.ensures.value) c.self.invariant.0
    (sym c.is_flagged-was.ensures ∙ down)

pub invariant_of-self : goal.invariant_of-self
unfolding apply keeps_links
invariant_of-self c =
    let r = c.router_mut-router.result.now.router in
    let w = c.send_out-message.new.self.router in
    let stays : StaysFiled r w = subst (StaysFiled r) (sym c.send_out-message.ensures.router) (act_stays r acts.SendOut Plain refl) in
    let same = ap ends_inside c.send_out-message.ensures.router in (
      flag_changed _ c.args.serial r w stays _ _ _ _ c.self.inside.room c.self.inside.more c.self.inside.routers.room
          (sym c.router_mut-router.ensures.value) c.self.invariant.0 _ _ c.is_flagged-was.ensures c.is_flagged-is.ensures
          c.follow.ensures.members c.follow.ensures.room,
      hold_kept _ c.args.serial r w c.self.inside.ends c.self.inside.room c.self.inside.held.room
          (sym c.router_mut-router.ensures.value) same c.self.invariant.1,
      dry_kept _ _ c.args.serial r w (sym c.router_mut-router.ensures.value) (ap (λ x. x.dry) c.send_out-message.ensures.router) c.self.invariant.2,
      ready_kept _ c.args.serial r w _ _ _ (sym c.router_mut-router.ensures.value) (ap is_ready c.send_out-message.ensures.router) c.self.invariant.3,
    )

pub send_out-message-requires : goal.send_out-message-requires
send_out-message-requires c =
    let r = c.router_mut-router.result.now.router in
    let may : may_take r acts.SendOut ≡ true = subst (λ o. IsSomeAnd o (λ (x : Router). may_take x acts.SendOut ≡ true))
    (sym c.router_mut-router.ensures.value)
    (subst (λ v. IsSomeAnd (get v.filed.routers c.args.serial) (λ (x : Router). may_take x acts.SendOut ≡ true)) (sym c.self.view_is)
    c.requires) in
    may_send r may
