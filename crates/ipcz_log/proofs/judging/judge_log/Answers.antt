use Rattle.std.proofs.Common.{[], Some, None, arith, subst}
use Rattle.ipcz_log.specs.Verdicts.{IsHeader, IsSaidOf, IsSaidOfLogs}
use Rattle.ipcz_log.proofs.Cutting.{consumes_more}
use Rattle.ipcz_log.proofs.Hearing.{headed, headless}
use Rattle.ipcz_log.proofs.judging.judge_log.Goals as goal

pub returns-in_default-clause-verdict : goal.returns-in_default-clause-verdict
returns-in_default-clause-verdict g c =
    headless (g.R.Read.remaining c.args.reader.now.inner) (g.R.Read.remaining c.next.new.reader.inner) c.new-lines.result c.next.new.self c.in_ok-next.field-0 c.new-lines.ensures.unread
    (c.in_ok-next.ensures.line (λ e. absurd (grind (arith, c.new-lines.ensures.ended, e))))
    (subst (λ o. IsHeader c.next.new.self.line o) c.in_default.is (subst (λ l. IsHeader l c.in_ok-header.field-0) c.line.ensures c.in_ok-header.ensures.header))

pub returns-in-Some-logs-clause-verdict : goal.returns-in-Some-logs-clause-verdict
returns-in-Some-logs-clause-verdict g c = c.judge_logs.ensures.said (g.R.Read.remaining c.args.reader.now.inner)
    (headed (g.R.Read.remaining c.args.reader.now.inner) (g.R.Read.remaining c.next.new.reader.inner) c.new-lines.result c.next.new.self c.in_ok-next.field-0 c.in-Some.header
    (Some c.in-Some-logs.count) (IsSaidOfLogs c.in-Some.header.nodes c.in-Some.header.profile c.in-Some-logs.count [] 2) c.in-Some-logs.is (λ ls v said. said) c.new-lines.ensures.unread
    (c.in_ok-next.ensures.line (λ e. absurd (grind (arith, c.new-lines.ensures.ended, e))))
    (subst (λ o. IsHeader c.next.new.self.line o) c.in-Some.is (subst (λ l. IsHeader l c.in_ok-header.field-0) c.line.ensures c.in_ok-header.ensures.header)))

pub returns-in-Some-logs-clause-taken : goal.returns-in-Some-logs-clause-taken
returns-in-Some-logs-clause-taken g c = consumes_more (g.R.Read.remaining c.args.reader.now.inner) (g.R.Read.remaining c.next.new.reader.inner) (g.R.Read.remaining c.judge_logs.new.reader.inner)
    c.next.ensures.taken c.judge_logs.ensures.taken

pub returns-clause-verdict : goal.returns-clause-verdict
returns-clause-verdict g c = c.judge_lines.ensures.said (g.R.Read.remaining c.args.reader.now.inner)
    (headed (g.R.Read.remaining c.args.reader.now.inner) (g.R.Read.remaining c.next.new.reader.inner) c.new-lines.result c.next.new.self c.in_ok-next.field-0 c.in-Some.header
    None (IsSaidOf c.in-Some.header.nodes c.in-Some.header.profile [] 2) c.in-None.is (λ ls v said. said) c.new-lines.ensures.unread
    (c.in_ok-next.ensures.line (λ e. absurd (grind (arith, c.new-lines.ensures.ended, e))))
    (subst (λ o. IsHeader c.next.new.self.line o) c.in-Some.is (subst (λ l. IsHeader l c.in_ok-header.field-0) c.line.ensures c.in_ok-header.ensures.header)))

pub returns-clause-taken : goal.returns-clause-taken
returns-clause-taken g c = consumes_more (g.R.Read.remaining c.args.reader.now.inner) (g.R.Read.remaining c.next.new.reader.inner) (g.R.Read.remaining c.judge_lines.new.reader.inner)
    c.next.ensures.taken c.judge_lines.ensures.taken
