use Rattle.std.proofs.Common.{◌≡◌, [], List, Vec, arith, ap, subst, ◌∙◌, sym}
use Rattle.std.specs.Global.{Global}
use Rattle.ipcz_base.specs.declared.end.End.{End}
use Rattle.ipcz_verdict.specs.declared.portal.Portal.{Portal}
use Rattle.ipcz_verdict.specs.Desks.{ClosesSome}
use Rattle.ipcz_verdict.proofs.Closing.{close_one, nothing_closed, skip_closed}
use Rattle.ipcz_verdict.proofs.books.close_dropped.Goals as goal
use Rattle.ipcz_verdict.proofs.books.close_dropped.Goals.{then-not-is_closed+in_ok-shut, else-not-is_closed}

pub loop-init : goal.loop-init
loop-init c = nothing_closed c.args.portals.now c.args.dropped.items

pub returns-in_default : goal.returns-in_default
returns-in_default c =
    let none : c.loop.dropped.items ≡ [] = grind (arith, c.in_default.ensures, c.loop.dropped.ok) in
    subst (λ x. ClosesSome c.args.portals.now c.args.dropped.items c.loop.portals x) none c.loop.invariant

pub loop-preserved : goal.loop-preserved
loop-preserved c =
    elim c.if-not-is_closed.branch [
      | then-not-is_closed+in_ok-shut w ↦ close_one c.args.portals.now c.loop.portals c.args.dropped.items c.pop.new.self.items c.loop.dropped.items
          c.if-not-is_closed.dropped.items c.if-not-is_closed.portals c.in-Some.end c.in-Some.ensures.items (sym c.is_closed.ensures ∙ w.if-not-is_closed.true)
          (w.portals-is ∙ w.in_ok-shut.ensures.portals) (ap (λ (v : Vec End Global). v.items) w.dropped-is ∙ w.in_ok-shut.ensures.dropped) c.loop.invariant
      | else-not-is_closed w ↦
          subst (λ (s : List Portal). ClosesSome c.args.portals.now c.args.dropped.items s c.if-not-is_closed.dropped.items) (sym w.portals-is)
          (subst (λ (x : List End). ClosesSome c.args.portals.now c.args.dropped.items c.loop.portals x) (sym (ap (λ (v : Vec End Global). v.items) w.dropped-is))
          (skip_closed c.args.portals.now c.loop.portals c.args.dropped.items c.pop.new.self.items c.loop.dropped.items c.in-Some.end c.in-Some.ensures.items
          (sym c.is_closed.ensures ∙ w.if-not-is_closed.false) c.loop.invariant))
    ]
