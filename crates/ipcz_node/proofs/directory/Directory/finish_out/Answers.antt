use Rattle.std.proofs.Common.{◌+◌, ◌≤◌, ap, sym, ◌∙◌, subst, arith}
use Rattle.ipcz_router.specs.declared.act.RouterAct.TheVariants.{FinishOut}
use Rattle.std.specs.Prelude.{◌≡◌, true, IsSomeAnd}
use Rattle.std.specs.FinMap.{get}
use Rattle.ipcz_router.specs.Router.{Router}
use Rattle.ipcz_router.specs.ActTable.{may_take}
use Rattle.ipcz_node.specs.Finding.{is_ready}
use Rattle.ipcz_node.specs.Directories.{ends_inside, ends_taken}
use Rattle.ipcz_node.proofs.Holding.{hold_spent, act_inside}
use Rattle.ipcz_node.proofs.Refiling.{FilesWithin, can_change, changed, act_standing, finished}
use Rattle.ipcz_node.proofs.Dryness.{dry_kept, finish_dry}
use Rattle.ipcz_node.proofs.Readiness.{ready_kept, act_ready, holds_at}
use Rattle.ipcz_node.proofs.directory.Directory.finish_out.Goals as goal

pub unfile-requires-clause-can : goal.unfile-requires-clause-can
unfile-requires-clause-can c =
    let r = c.router_mut-router.result.now.router in
    let w = c.apply-applied.new.self.router in
    let fits : FilesWithin 0 r w = subst (FilesWithin 0 r) (sym c.apply-applied.ensures.router) (act_standing r _ _) in
    can_change _ c.args.serial r w _ _ 0 fits _ c.self.inside.files.links _ c.self.inside.files.terminals _ c.self.inside.files.flagged c.self.inside.room
    c.self.inside.more c.self.inside.more c.self.inside.routers.room (sym c.router_mut-router.ensures.value)
    c.filing-was.ensures c.filing-is.ensures (omega arith) c.self.invariant.0

pub invariant_of-self : goal.invariant_of-self
invariant_of-self c =
    let r = c.router_mut-router.result.now.router in
    let w = c.apply-applied.new.self.router in
    let fits : FilesWithin 0 r w = subst (FilesWithin 0 r) (sym c.apply-applied.ensures.router) (act_standing r _ _) in
    let may : may_take r FinishOut ≡ true = holds_at (λ x. may_take x FinishOut ≡ true) _ r (sym c.router_mut-router.ensures.value)
    (subst (λ v. IsSomeAnd (get v.filed.routers c.args.serial) (λ (x : Router). may_take x FinishOut ≡ true)) (sym c.self.view_is) c.requires.possible) in
    let fewer : ends_inside w + c.ends_taken.result ≤ ends_inside r =
    omega (
      arith,
      act_inside r FinishOut c.args.answer,
      ap ends_inside c.apply-applied.ensures.router,
      c.ends_taken.ensures,
      ap (ends_taken FinishOut) c.apply-applied.ensures.output,
    ) in (
      changed _ c.args.serial r w _ _ 0 fits _ _ _ _ _ _ c.self.inside.room c.self.inside.more c.self.inside.more c.self.inside.routers.room
          (sym c.router_mut-router.ensures.value) c.filing-was.ensures c.filing-is.ensures (omega arith)
          c.self.invariant.0 c.unfile.ensures,
      hold_spent _ c.args.serial r w c.self.inside.ends _ c.ends_taken.result c.self.inside.room c.self.inside.held.room
          c.self.inside.held.room (sym c.router_mut-router.ensures.value) fewer c.saturating_sub-self-inside.ensures (omega arith)
          c.self.invariant.1,
      dry_kept _ _ c.args.serial r w (sym c.router_mut-router.ensures.value) (ap (λ x. x.dry) c.apply-applied.ensures.router ∙ finish_dry r c.args.answer) c.self.invariant.2,
      ready_kept _ c.args.serial r w _ _ _ (sym c.router_mut-router.ensures.value) (ap is_ready c.apply-applied.ensures.router ∙ act_ready r FinishOut c.args.answer may) c.self.invariant.3,
    )

pub unfile-requires-clause-gone : goal.unfile-requires-clause-gone
unfile-requires-clause-gone c =
    finished c.router_mut-router.result.now.router c.apply-applied.new.self.router c.args.answer _ _ c.filing-was.ensures c.filing-is.ensures
    c.apply-applied.ensures.router
