use Rattle.std.proofs.Common.{List, false, ◌∙◌, ap, sym, subst}
use Rattle.std.proofs.lemmas.List.{with_items_is}
use Rattle.std.specs.FinMap.{get}
use Rattle.ipcz_verdict.specs.contracts.judge.Judge.{the_view}
use Rattle.ipcz_verdict.specs.declared.line.Line.TheVariants as lines
use Rattle.ipcz_verdict.specs.declared.portal.Portal.{Portal}
use Rattle.ipcz_verdict.specs.Desks.{Decides, DecidesCall, Desk}
use Rattle.ipcz_verdict.proofs.Lines.{put_line, put_some_unnamed, put_unnamed}
use Rattle.ipcz_verdict.proofs.judge.Judge.put.Goals as goal
use Rattle.ipcz_world.specs.declared.step.Reply.TheVariants.{Put}
use Rattle.ipcz_verdict.specs.Ledger.{put_step}

pub returns-in_default-clause-decided : goal.returns-in_default-clause-decided
returns-in_default-clause-decided c = subst (λ (d : Desk). Decides d (lines.Put c.args.node c.args.at.now c.args.bytes.now c.args.portals.now c.args.number) false d) c.self.view_is
    (put_unnamed (the_view c.self.inside) c.args.node c.args.at.now c.args.bytes.now c.args.portals.now c.args.number (sym (c.end_of.ensures.end ∙ ap (λ k. get c.self.inside.labels.names k) c.as_str.ensures.same) ∙ c.in_default.is))

pub returns-in_default-2-clause-decided : goal.returns-in_default-2-clause-decided
returns-in_default-2-clause-decided c = subst (λ (d : Desk). Decides d (lines.Put c.args.node c.args.at.now c.args.bytes.now c.args.portals.now c.args.number) false d) c.self.view_is
    (put_some_unnamed (the_view c.self.inside) c.args.node c.args.at.now c.args.bytes.now c.args.portals.now c.args.number (sym c.in_ok-ends.ensures ∙ c.in_default-2.is))

pub returns-clause-decided : goal.returns-clause-decided
returns-clause-decided c =
    subst (λ (s : List Portal). Decides c.args.self.now (lines.Put c.args.node c.args.at.now c.args.bytes.now c.args.portals.now c.args.number) c.in_ok-allowed.allowed (record (the_view c.self.inside) { portals = s }))
    (sym (with_items_is c.self.inside.portals c.put.new.portals (c.put.auto.portals ∙ c.deref_mut.ensures.len)))
    (subst (λ (d : Desk). Decides d (lines.Put c.args.node c.args.at.now c.args.bytes.now c.args.portals.now c.args.number) c.in_ok-allowed.allowed (record (the_view c.self.inside) { portals = c.put.new.portals })) c.self.view_is
    (put_line (the_view c.self.inside) c.put.new.portals c.args.node c.args.at.now c.args.bytes.now c.args.portals.now c.args.number c.in-Some.end c.in-Some-2.ends c.in_ok-allowed.allowed
    (sym (c.end_of.ensures.end ∙ ap (λ k. get c.self.inside.labels.names k) c.as_str.ensures.same) ∙ c.in-Some.is) (sym c.in_ok-ends.ensures ∙ c.in-Some-2.is)
    (subst (λ s. DecidesCall s (put_step c.self.inside.profile c.args.node c.in-Some.end c.args.bytes.now c.in-Some-2.ends) (Put c.args.number) c.in_ok-allowed.allowed c.put.new.portals)
    c.deref_mut.ensures.value
    (subst (λ bytes. DecidesCall c.deref_mut.result.now (put_step c.self.inside.profile c.args.node c.in-Some.end bytes c.in-Some-2.ends) (Put c.args.number) c.in_ok-allowed.allowed c.put.new.portals)
    c.in_ok-bytes.ensures.copy c.in_ok-allowed.ensures.decided))))
