use Rattle.std.proofs.Common.{◌<◌, ◌-◌, ◌∙◌, ap, sym, subst, arith}
use Rattle.ipcz_router.specs.Router.{proxy_link}
use Rattle.ipcz_node.specs.Finding.{is_ready}
use Rattle.ipcz_node.specs.Directories.{ends_inside}
use Rattle.ipcz_node.proofs.Holding.{hold_kept}
use Rattle.ipcz_node.proofs.Refiling.{FilesWithin, can_change, changed, extend_standing}
use Rattle.ipcz_node.proofs.Dryness.{dry_kept}
use Rattle.ipcz_node.proofs.Readiness.{ready_closed, extend_ready, ready_filed}
use Rattle.ipcz_node.proofs.directory.Directory.extend.Goals as goal

pub refile-requires : goal.refile-requires
refile-requires c =
    let r = c.router_mut-router.result.now.router in
    let w = c.extend_to-descriptor.new.self.router in
    let some : 0 < c.self.inside.more = subst (λ v. 0 < v.filed.links) (sym c.self.view_is) c.requires.room in
    let fits : FilesWithin 1 r w = subst (FilesWithin 1 r) (sym c.extend_to-descriptor.ensures.router) (extend_standing r _) in
    can_change _ c.args.serial r w _ _ 1 fits _ c.self.inside.files.links _ c.self.inside.files.terminals _ c.self.inside.files.flagged c.self.inside.room
    c.self.inside.more (c.self.inside.more - 1) c.self.inside.routers.room (sym c.router_mut-router.ensures.value)
    c.filing-was.ensures c.filing-is.ensures (omega (arith, some)) c.self.invariant.0

pub invariant_of-self : goal.invariant_of-self
invariant_of-self c =
    let r = c.router_mut-router.result.now.router in
    let w = c.extend_to-descriptor.new.self.router in
    let some : 0 < c.self.inside.more = subst (λ v. 0 < v.filed.links) (sym c.self.view_is) c.requires.room in
    let fits : FilesWithin 1 r w = subst (FilesWithin 1 r) (sym c.extend_to-descriptor.ensures.router) (extend_standing r _) in (
      changed _ c.args.serial r w _ _ 1 fits _ _ _ _ _ _ c.self.inside.room c.self.inside.more (c.self.inside.more - 1)
          c.self.inside.routers.room (sym c.router_mut-router.ensures.value) c.filing-was.ensures c.filing-is.ensures (omega (arith, some))
          c.self.invariant.0 c.refile.ensures,
      hold_kept _ c.args.serial r w c.self.inside.ends c.self.inside.room c.self.inside.held.room
          (sym c.router_mut-router.ensures.value) (ap ends_inside c.extend_to-descriptor.ensures.router) c.self.invariant.1,
      dry_kept _ _ c.args.serial r w (sym c.router_mut-router.ensures.value) (ap (λ x. x.dry) c.extend_to-descriptor.ensures.router) c.self.invariant.2,
      ready_closed _ c.args.serial r w _ _ _ _ c.is_ready-was_ready.result _ (sym c.router_mut-router.ensures.value) c.is_ready-was_ready.ensures
          (ap is_ready c.extend_to-descriptor.ensures.router ∙ extend_ready r (proxy_link c.args.link c.args.to)) c.drop_ended.ensures.latest c.drop_ended.ensures.members
          c.drop_ended.ensures.room c.self.invariant.3,
    )

pub drop_ended-requires : goal.drop_ended-requires
drop_ended-requires c =
    ready_filed _ c.args.serial c.router_mut-router.result.now.router _ _ _ c.is_ready-was_ready.result (sym c.router_mut-router.ensures.value)
    (λ is. sym c.is_ready-was_ready.ensures ∙ is) c.self.invariant.3
