use Rattle.std.proofs.Common.{List, false, ◌∙◌, ap, sym, subst}
use Rattle.std.proofs.lemmas.List.{with_items_is}
use Rattle.std.specs.FinMap.{get}
use Rattle.ipcz_verdict.specs.contracts.judge.Judge.{the_view}
use Rattle.ipcz_verdict.specs.declared.line.Line.TheVariants as lines
use Rattle.ipcz_verdict.specs.declared.portal.Portal.{Portal}
use Rattle.ipcz_verdict.specs.Desks.{Decides, DecidesCall, Desk}
use Rattle.ipcz_verdict.proofs.Lines.{closed_line, closed_unnamed}
use Rattle.ipcz_verdict.proofs.judge.Judge.closed.Goals as goal
use Rattle.ipcz_world.specs.declared.step.Step.TheVariants.{Close}
use Rattle.ipcz_world.specs.declared.step.Reply.TheVariants.{Closed}

pub returns-in_default-clause-decided : goal.returns-in_default-clause-decided
returns-in_default-clause-decided c = subst (λ (d : Desk). Decides d (lines.Closed c.args.node c.args.at.now c.args.number) false d) c.self.view_is
    (closed_unnamed (the_view c.self.inside) c.args.node c.args.at.now c.args.number (sym (c.end_of.ensures.end ∙ ap (λ k. get c.self.inside.labels.names k) c.as_str.ensures.same) ∙ c.in_default.is))

pub returns-clause-decided : goal.returns-clause-decided
returns-clause-decided c =
    subst (λ (s : List Portal). Decides c.args.self.now (lines.Closed c.args.node c.args.at.now c.args.number) c.in_ok-allowed.allowed (record (the_view c.self.inside) { portals = s }))
    (sym (with_items_is c.self.inside.portals c.close.new.portals (c.close.auto.portals ∙ c.deref_mut.ensures.len)))
    (subst (λ (d : Desk). Decides d (lines.Closed c.args.node c.args.at.now c.args.number) c.in_ok-allowed.allowed (record (the_view c.self.inside) { portals = c.close.new.portals })) c.self.view_is
    (closed_line (the_view c.self.inside) c.close.new.portals c.args.node c.args.at.now c.args.number c.in-Some.end c.in_ok-allowed.allowed (sym (c.end_of.ensures.end ∙ ap (λ k. get c.self.inside.labels.names k) c.as_str.ensures.same) ∙ c.in-Some.is)
    (subst (λ s. DecidesCall s (Close c.args.node c.in-Some.end) (Closed c.args.number) c.in_ok-allowed.allowed c.close.new.portals)
    c.deref_mut.ensures.value c.in_ok-allowed.ensures.decided)))
