use Rattle.std.proofs.Common.{◌≤◌, ◌-◌, ◌∙◌, ap, sym, subst, arith}
use Rattle.ipcz_router.specs.Hearing.{links_brought}
use Rattle.ipcz_node.specs.Finding.{is_ready}
use Rattle.ipcz_node.specs.Directories.{ends_inside}
use Rattle.ipcz_node.proofs.Holding.{hold_kept}
use Rattle.ipcz_node.proofs.Refiling.{FilesWithin, can_change, changed}
use Rattle.ipcz_node.proofs.Standings.{hear_standing, hear_inside}
use Rattle.ipcz_node.proofs.Dryness.{dry_kept, hear_dry}
use Rattle.ipcz_node.proofs.Readiness.{ready_kept, hear_ready}
use Rattle.ipcz_node.proofs.directory.Directory.hear_on_links.Goals as goal

pub refile-requires : goal.refile-requires
refile-requires c =
    let r = c.router_mut-router.result.now.router in
    let w = c.hear-answer.new.router.router in
    let m = c.args.message.now in
    let enough : links_brought m ≤ c.self.inside.more = subst (λ v. links_brought m ≤ v.filed.links) (sym c.self.view_is) c.requires.room in
    let fits : FilesWithin (links_brought m) r w = subst (FilesWithin (links_brought m) r) (sym c.hear-answer.ensures.router)
    (hear_standing r c.args.sender m) in
    can_change _ c.args.serial r w _ _ (links_brought m) fits _ c.self.inside.files.links _ c.self.inside.files.terminals _ c.self.inside.files.flagged
    c.self.inside.room c.self.inside.more (c.self.inside.more - links_brought m) c.self.inside.routers.room
    (sym c.router_mut-router.ensures.value) c.filing-was.ensures c.filing-is.ensures (omega (arith, enough)) c.self.invariant.0

pub invariant_of-self : goal.invariant_of-self
invariant_of-self c =
    let r = c.router_mut-router.result.now.router in
    let w = c.hear-answer.new.router.router in
    let m = c.args.message.now in
    let enough : links_brought m ≤ c.self.inside.more = subst (λ v. links_brought m ≤ v.filed.links) (sym c.self.view_is) c.requires.room in
    let fits : FilesWithin (links_brought m) r w = subst (FilesWithin (links_brought m) r) (sym c.hear-answer.ensures.router)
    (hear_standing r c.args.sender m) in (
      changed _ c.args.serial r w _ _ (links_brought m) fits _ _ _ _ _ _ c.self.inside.room c.self.inside.more
          (c.self.inside.more - c.links_brought.result) c.self.inside.routers.room (sym c.router_mut-router.ensures.value)
          c.filing-was.ensures c.filing-is.ensures (omega (arith, enough, c.links_brought.ensures.count)) c.self.invariant.0 c.refile.ensures,
      hold_kept _ c.args.serial r w c.self.inside.ends c.self.inside.room c.self.inside.held.room (sym c.router_mut-router.ensures.value)
          (ap ends_inside c.hear-answer.ensures.router ∙ hear_inside r c.args.sender m) c.self.invariant.1,
      dry_kept _ _ c.args.serial r w (sym c.router_mut-router.ensures.value) (ap (λ x. x.dry) c.hear-answer.ensures.router ∙ hear_dry r c.args.sender m) c.self.invariant.2,
      ready_kept _ c.args.serial r w _ _ _ (sym c.router_mut-router.ensures.value) (ap is_ready c.hear-answer.ensures.router ∙ hear_ready r c.args.sender m) c.self.invariant.3,
    )
