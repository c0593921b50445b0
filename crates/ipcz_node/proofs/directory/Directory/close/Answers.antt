use Rattle.std.proofs.Common.{◌≡◌, ◌==◌, ◌&&◌, not, true, refl, sym, ap₂, ◌∙◌, arith, true≢false}
use Rattle.std.specs.Prelude.{OnErr}
use Rattle.ipcz_node.specs.Finding.{is_ready}
use Rattle.ipcz_node.specs.Directories.{ends_inside}
use Rattle.ipcz_node.proofs.Refiling.{FilesWithin, can_change, changed, first_of_both, same_standing, after, left_after}
use Rattle.ipcz_base.specs.declared.refusal.Refusal.TheVariants.{OutOfMemory}
use Rattle.ipcz_router.specs.Closing.{close_router}
use Rattle.ipcz_node.proofs.Standings.{close_standing}
use Rattle.ipcz_node.proofs.Holding.{hold_kept}
use Rattle.ipcz_node.proofs.Dryness.{dry_kept}
use Rattle.ipcz_node.proofs.Readiness.{close_ready, ready_changed, ready_filed}
use Rattle.ipcz_node.proofs.directory.Directory.close.Goals as goal

pub refile-requires : goal.refile-requires
refile-requires c =
    let r = c.router_mut-router.result.now.router in
    let w = c.close-answer.new.self.router in
    let left : OnErr c.close-answer.result (w ≡ r) = left_after (λ e. e ≡ OutOfMemory) (w ≡ r)
    c.close-answer.result c.close-answer.ensures.err in
    let fits : FilesWithin 0 r w = after (FilesWithin 0 r) c.close-answer.result r w (close_router r) c.close-answer.ensures.ok left
    (close_standing r) (same_standing r) in
    can_change _ c.args.serial r w _ _ 0 fits _ c.self.inside.files.links _ c.self.inside.files.terminals _ c.self.inside.files.flagged c.self.inside.room
    c.self.inside.more c.self.inside.more c.self.inside.routers.room (sym c.router_mut-router.ensures.value)
    c.filing-was.ensures c.filing-is.ensures (omega arith) c.self.invariant.0

pub drop_ended-requires : goal.drop_ended-requires
drop_ended-requires c =
    ready_filed _ c.args.serial c.router_mut-router.result.now.router _ _ _ (c.is_ready-was_ready.result && not c.is_ready.result)
    (sym c.router_mut-router.ensures.value) (λ is. sym c.is_ready-was_ready.ensures ∙ first_of_both _ _ is) c.self.invariant.3

pub invariant_of-self : goal.invariant_of-self
invariant_of-self c =
    let r = c.router_mut-router.result.now.router in
    let w = c.close-answer.new.self.router in
    let left : OnErr c.close-answer.result (w ≡ r) = left_after (λ e. e ≡ OutOfMemory) (w ≡ r)
    c.close-answer.result c.close-answer.ensures.err in
    let fits : FilesWithin 0 r w = after (FilesWithin 0 r) c.close-answer.result r w (close_router r) c.close-answer.ensures.ok left
    (close_standing r) (same_standing r) in
    let same : ends_inside w ≡ ends_inside r = after (λ x. ends_inside x ≡ ends_inside r) c.close-answer.result r w (close_router r)
    c.close-answer.ensures.ok left refl refl in (
      changed _ c.args.serial r w _ _ 0 fits _ _ _ _ _ _ c.self.inside.room c.self.inside.more c.self.inside.more c.self.inside.routers.room
          (sym c.router_mut-router.ensures.value) c.filing-was.ensures c.filing-is.ensures (omega arith)
          c.self.invariant.0 c.refile.ensures,
      hold_kept _ c.args.serial r w c.self.inside.ends c.self.inside.room c.self.inside.held.room
          (sym c.router_mut-router.ensures.value) same c.self.invariant.1,
      dry_kept _ _ c.args.serial r w (sym c.router_mut-router.ensures.value) (after (λ x. x.dry ≡ r.dry) c.close-answer.result r w (close_router r) c.close-answer.ensures.ok left refl refl) c.self.invariant.2,
      ready_changed _ c.args.serial r w _ _ _ _ _ _ (sym c.router_mut-router.ensures.value)
          (after (λ x. is_ready x ≡ true → is_ready r ≡ true) c.close-answer.result r w (close_router r) c.close-answer.ensures.ok left
          (λ is. absurd (true≢false (sym is ∙ close_ready r))) (λ is. is)) (ap₂ (λ a b. not (c.args.serial == c.self.inside.ready.latest) && (a && not b)) c.is_ready-was_ready.ensures c.is_ready.ensures)
          c.drop_ended.ensures.latest c.drop_ended.ensures.members c.drop_ended.ensures.room c.self.invariant.3,
    )
