use Rattle.std.proofs.Common.{false, ◌∙◌, ap, ap₂, sym, subst}
use Rattle.std.specs.FinMap.{get}
use Rattle.ipcz_verdict.specs.contracts.judge.Judge.{the_view}
use Rattle.ipcz_verdict.specs.declared.line.Line.TheVariants as lines
use Rattle.ipcz_verdict.specs.Desks.{Decides, Desk, account_of, may_refuse_put}
use Rattle.ipcz_verdict.proofs.Lines.{put_refused_line, put_refused_some_unnamed, put_refused_unnamed}
use Rattle.ipcz_verdict.proofs.judge.Judge.put_refused.Goals as goal
use Rattle.ipcz_promise.specs.Promise.{first_refusal}

pub returns-in_default : goal.returns-in_default
returns-in_default c = subst (λ (d : Desk). Decides d (lines.PutRefused c.args.node c.args.at.now c.args.bytes.now c.args.portals.now c.args.why) false d) c.self.view_is
    (put_refused_unnamed (the_view c.self.inside) c.args.node c.args.at.now c.args.bytes.now c.args.portals.now c.args.why (sym (c.end_of.ensures.end ∙ ap (λ k. get c.self.inside.labels.names k) c.as_str.ensures.same) ∙ c.in_default.is))

pub returns-in_default-2 : goal.returns-in_default-2
returns-in_default-2 c = subst (λ (d : Desk). Decides d (lines.PutRefused c.args.node c.args.at.now c.args.bytes.now c.args.portals.now c.args.why) false d) c.self.view_is
    (put_refused_some_unnamed (the_view c.self.inside) c.args.node c.args.at.now c.args.bytes.now c.args.portals.now c.args.why (sym c.in_ok-ends.ensures ∙ c.in_default-2.is))

pub returns : goal.returns
returns c = subst (λ (d : Desk). Decides d (lines.PutRefused c.args.node c.args.at.now c.args.bytes.now c.args.portals.now c.args.why) c.may_refuse_put.result d) c.self.view_is
    (put_refused_line (the_view c.self.inside) c.args.node c.args.at.now c.args.bytes.now c.args.portals.now c.args.why c.in-Some.end c.in-Some-2.ends c.may_refuse_put.result
    (sym (c.end_of.ensures.end ∙ ap (λ k. get c.self.inside.labels.names k) c.as_str.ensures.same) ∙ c.in-Some.is) (sym c.in_ok-ends.ensures ∙ c.in-Some-2.is) (c.may_refuse_put.ensures
    ∙ ap₂ (λ o s. may_refuse_put o s c.self.inside.nodes c.args.node c.in-Some.end c.args.why)
    (c.first_refusal-first.ensures ∙ ap₂ (λ s es. first_refusal c.self.inside.profile (account_of s) c.args.node c.in-Some.end c.args.bytes.now es) c.deref.ensures.value c.as_slice.ensures)
    c.deref-2.ensures.value))
