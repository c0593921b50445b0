use Rattle.std.proofs.Common.{◌∙◌, sym, subst, refl, arith}
use Rattle.ipcz_node.specs.Directories.{AreFiled, HaveRoom}
use Rattle.ipcz_node.proofs.Directories.{can_refile, unfiled}
use Rattle.ipcz_node.proofs.Holding.{hold_dropped}
use Rattle.ipcz_node.proofs.Refiling.{nowhere, under_nowhere}
use Rattle.ipcz_node.proofs.Dryness.{dry_dropped}
use Rattle.ipcz_node.proofs.Readiness.{ready_dropped, ready_filed}
use Rattle.ipcz_node.proofs.directory.Directory.remove.Goals as goal

pub refile-requires : goal.refile-requires
refile-requires c =
    can_refile _ c.args.serial c.remove-router.result.router _ _ _ _ _ c.self.inside.room c.self.inside.more c.self.inside.routers.room
    (sym c.remove-router.ensures.router) c.filing-was.ensures (omega arith) (λ h. refl) refl c.self.invariant.0

pub invariant_of-self : goal.invariant_of-self
invariant_of-self c =
    let held = unfiled _ c.args.serial c.remove-router.result.router _ (nowhere c.filing-was.result.end)
    _ _ _ _ _ _ c.self.inside.room c.self.inside.more c.self.inside.routers.room c.remove-router.new.self.room
    (sym c.remove-router.ensures.router) c.filing-was.ensures
    (under_nowhere c.filing-was.result.end) refl refl refl (omega (arith, c.remove-router.ensures.room))
    c.self.invariant.0 c.refile.ensures in (
      subst (λ m. AreFiled m c.refile.new.self.links.members c.refile.new.self.terminals.members c.refile.new.self.flagged.members ×
          HaveRoom m c.self.inside.room c.self.inside.more c.remove-router.new.self.room c.refile.new.self.links.room c.refile.new.self.terminals.room
          c.refile.new.self.flagged.room)
          (sym c.remove-router.ensures.routers) held,
      hold_dropped _ _ c.args.serial c.remove-router.result.router c.self.inside.ends c.self.inside.room c.self.inside.held.room
          (sym c.remove-router.ensures.router) c.remove-router.ensures.routers c.self.invariant.1,
      dry_dropped _ _ _ c.args.serial c.remove-router.ensures.routers c.self.invariant.2,
      ready_dropped _ _ c.args.serial c.remove-router.result.router _ _ _ _ c.is_ready-was_ready.result _ (sym c.remove-router.ensures.router)
          c.remove-router.ensures.routers c.is_ready-was_ready.ensures c.drop_ended.ensures.latest c.drop_ended.ensures.members
          c.drop_ended.ensures.room c.self.invariant.3,
    )

pub drop_ended-requires : goal.drop_ended-requires
drop_ended-requires c =
    ready_filed _ c.args.serial c.remove-router.result.router _ _ _ c.is_ready-was_ready.result (sym c.remove-router.ensures.router)
    (λ is. sym c.is_ready-was_ready.ensures ∙ is) c.self.invariant.3
