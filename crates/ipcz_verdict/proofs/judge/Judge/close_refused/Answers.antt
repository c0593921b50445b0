use Rattle.std.proofs.Common.{false, ◌∙◌, ap, sym, subst}
use Rattle.std.specs.FinMap.{get}
use Rattle.ipcz_verdict.specs.contracts.judge.Judge.{the_view}
use Rattle.ipcz_verdict.specs.declared.line.Line.TheVariants as lines
use Rattle.ipcz_verdict.specs.Desks.{Decides, Desk, may_refuse_close}
use Rattle.ipcz_verdict.proofs.Lines.{close_refused_line, close_refused_unnamed}
use Rattle.ipcz_verdict.proofs.judge.Judge.close_refused.Goals as goal

pub returns-in_default : goal.returns-in_default
returns-in_default c = subst (λ (d : Desk). Decides d (lines.CloseRefused c.args.node c.args.at.now c.args.why) false d) c.self.view_is
    (close_refused_unnamed (the_view c.self.inside) c.args.node c.args.at.now c.args.why (sym (c.end_of.ensures.end ∙ ap (λ k. get c.self.inside.labels.names k) c.as_str.ensures.same) ∙ c.in_default.is))

pub returns : goal.returns
returns c = subst (λ (d : Desk). Decides d (lines.CloseRefused c.args.node c.args.at.now c.args.why) c.may_refuse_close.result d) c.self.view_is
    (close_refused_line (the_view c.self.inside) c.args.node c.args.at.now c.args.why c.in-Some.end c.may_refuse_close.result (sym (c.end_of.ensures.end ∙ ap (λ k. get c.self.inside.labels.names k) c.as_str.ensures.same) ∙ c.in-Some.is)
    (c.may_refuse_close.ensures ∙ ap (λ s. may_refuse_close s c.args.node c.in-Some.end c.args.why) c.deref.ensures.value))
