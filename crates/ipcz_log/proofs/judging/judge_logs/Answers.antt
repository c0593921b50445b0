use Rattle.std.proofs.Common.{List, subst}
use Rattle.ipcz_verdict.specs.declared.entry.Entry.{Entry}
use Rattle.ipcz_verdict.specs.declared.search.Found.{Found}
use Rattle.ipcz_verdict.specs.Together.{IsFound}
use Rattle.ipcz_log.specs.declared.verdict.Verdict.TheVariants as verdicts
use Rattle.ipcz_log.specs.Steps.{AreRead}
use Rattle.ipcz_log.specs.Verdicts.{most_steps}
use Rattle.ipcz_log.proofs.Hearing.{told}
use Rattle.ipcz_log.proofs.judging.judge_logs.Goals as goal

pub returns-in-Some-clause-said : goal.returns-in-Some-clause-said
returns-in-Some-clause-said g c = λ before way.
    subst (λ o. AreRead before (g.R.Read.remaining c.read_lines.new.reader.inner) c.args.header.nodes c.args.header.profile c.read_lines.new.logs o) c.in-Some.is
    (c.in_ok-number.ensures.read before c.args.header.nodes c.args.header.profile c.in_ok-logs.ensures.nothing way)

pub returns-in-Order-clause-said : goal.returns-in-Order-clause-said
returns-in-Order-clause-said g c = λ before way. told before (g.R.Read.remaining c.read_lines.new.reader.inner) c.args.header.nodes c.args.header.profile c.read_lines.new.logs c.in_ok-find_order.field-0 verdicts.Allowed
    (subst (λ o. AreRead before (g.R.Read.remaining c.read_lines.new.reader.inner) c.args.header.nodes c.args.header.profile c.read_lines.new.logs o) c.in_default.is
    (c.in_ok-number.ensures.read before c.args.header.nodes c.args.header.profile c.in_ok-logs.ensures.nothing way))
    c.in_ok-find_order.ensures.found (λ (entries : List Entry) h. subst (λ (f : Found). IsFound c.args.header.nodes c.args.header.profile entries most_steps f) c.in-Order.is h)

pub returns-in-NoOrder-clause-said : goal.returns-in-NoOrder-clause-said
returns-in-NoOrder-clause-said g c = λ before way. told before (g.R.Read.remaining c.read_lines.new.reader.inner) c.args.header.nodes c.args.header.profile c.read_lines.new.logs c.in_ok-find_order.field-0 (verdicts.NoOrder c.in-NoOrder.number)
    (subst (λ o. AreRead before (g.R.Read.remaining c.read_lines.new.reader.inner) c.args.header.nodes c.args.header.profile c.read_lines.new.logs o) c.in_default.is
    (c.in_ok-number.ensures.read before c.args.header.nodes c.args.header.profile c.in_ok-logs.ensures.nothing way))
    c.in_ok-find_order.ensures.found (λ (entries : List Entry) h. subst (λ (f : Found). IsFound c.args.header.nodes c.args.header.profile entries most_steps f) c.in-NoOrder.is h)

pub returns-in-Untold-clause-said : goal.returns-in-Untold-clause-said
returns-in-Untold-clause-said g c = λ before way. told before (g.R.Read.remaining c.read_lines.new.reader.inner) c.args.header.nodes c.args.header.profile c.read_lines.new.logs c.in_ok-find_order.field-0 verdicts.Untold
    (subst (λ o. AreRead before (g.R.Read.remaining c.read_lines.new.reader.inner) c.args.header.nodes c.args.header.profile c.read_lines.new.logs o) c.in_default.is
    (c.in_ok-number.ensures.read before c.args.header.nodes c.args.header.profile c.in_ok-logs.ensures.nothing way))
    c.in_ok-find_order.ensures.found (λ (entries : List Entry) h. subst (λ (f : Found). IsFound c.args.header.nodes c.args.header.profile entries most_steps f) c.in-Untold.is h)
