use Rattle.std.proofs.Common.{◌+◌, ◌≤◌, ◌∙◌, ap, sym, subst, arith}
use Rattle.std.specs.Prelude.{◌≡◌, true, IsSomeAnd}
use Rattle.std.specs.FinMap.{get}
use Rattle.ipcz_router.specs.Router.{Router}
use Rattle.ipcz_router.specs.ActTable.{may_take}
use Rattle.ipcz_node.specs.Finding.{is_ready}
use Rattle.ipcz_node.specs.Directories.{ends_inside, ends_taken}
use Rattle.ipcz_node.proofs.Holding.{hold_spent, act_inside}
use Rattle.ipcz_node.proofs.Refiling.{FilesWithin, can_change, changed, act_standing}
use Rattle.ipcz_node.proofs.Dryness.{dry_noted}
use Rattle.ipcz_node.proofs.Readiness.{ready_kept, act_ready, holds_at}
use Rattle.ipcz_node.proofs.directory.Directory.act_on_links.Goals as goal

pub refile-requires : goal.refile-requires
refile-requires c =
    let r = c.router_mut-router.result.now.router in
    let w = c.apply-applied.new.self.router in
    let fits : FilesWithin 0 r w = subst (FilesWithin 0 r) (sym c.apply-applied.ensures.router) (act_standing r _ _) in
    can_change _ c.args.serial r w _ _ 0 fits _ c.self.inside.files.links _ c.self.inside.files.terminals _ c.self.inside.files.flagged c.self.inside.room
    c.self.inside.more c.self.inside.more c.self.inside.routers.room (sym c.router_mut-router.ensures.value)
    c.filing-was.ensures c.filing-is.ensures (omega arith) c.self.invariant.0

pub invariant_of-self : goal.invariant_of-self
invariant_of-self c =
    let r = c.router_mut-router.result.now.router in
    let w = c.apply-applied.new.self.router in
    let fits : FilesWithin 0 r w = subst (FilesWithin 0 r) (sym c.apply-applied.ensures.router) (act_standing r _ _) in
    let may : may_take r c.args.act ≡ true = holds_at (λ x. may_take x c.args.act ≡ true) _ r (sym c.router_mut-router.ensures.value)
    (subst (λ v. IsSomeAnd (get v.filed.routers c.args.serial) (λ (x : Router). may_take x c.args.act ≡ true)) (sym c.self.view_is) c.requires.possible) in
    let fewer : ends_inside w + c.ends_taken.result ≤ ends_inside r =
    omega (
      arith,
      act_inside r c.args.act c.args.answer,
      ap ends_inside c.apply-applied.ensures.router,
      c.ends_taken.ensures,
      ap (ends_taken c.args.act) c.apply-applied.ensures.output,
    ) in (
      changed _ c.args.serial r w _ _ 0 fits _ _ _ _ _ _ c.self.inside.room c.self.inside.more c.self.inside.more c.self.inside.routers.room
          (sym c.router_mut-router.ensures.value) c.filing-was.ensures c.filing-is.ensures (omega arith)
          c.self.invariant.0 c.refile.ensures,
      hold_spent _ c.args.serial r w c.self.inside.ends _ c.ends_taken.result c.self.inside.room c.self.inside.held.room
          c.self.inside.held.room (sym c.router_mut-router.ensures.value) fewer c.saturating_sub-self-inside.ensures (omega arith)
          c.self.invariant.1,
      dry_noted _ _ _ c.args.serial w c.is_dry.ensures c.self.invariant.2,
      ready_kept _ c.args.serial r w _ _ _ (sym c.router_mut-router.ensures.value) (ap is_ready c.apply-applied.ensures.router ∙ act_ready r c.args.act c.args.answer may) c.self.invariant.3,
    )
