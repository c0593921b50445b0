use Rattle.std.proofs.Common.{[], subst, take}
use Rattle.std.proofs.lemmas.Result.{IfOk-weaker}
use Rattle.ipcz_events.specs.Verdicts.{IsHeader, IsSaidOf, IsVerdict, text_lines}
use Rattle.ipcz_events.proofs.Hearing.{headed, headless}
use Rattle.ipcz_events.proofs.log_text.judge_log.Goals as goal

pub returns-in_default : goal.returns-in_default
returns-in_default c = headless c.args.text.now c.line_len-len.result c.line_len-len.ensures.len
    (subst (λ o. IsHeader (take c.line_len-len.result c.args.text.now) o) c.in_default.is c.in_ok-header.ensures.header)

pub returns : goal.returns
returns c = IfOk-weaker c.judge_lines.result (λ v. IsSaidOf c.in-Some.header.nodes c.in-Some.header.words [] 2 (text_lines c.behind.result.now) v) (λ v. IsVerdict c.args.text.now v)
    (λ v said. headed c.args.text.now c.line_len-len.result c.behind.result.now c.in-Some.header v c.line_len-len.ensures.len c.behind.ensures
    (subst (λ o. IsHeader (take c.line_len-len.result c.args.text.now) o) c.in-Some.is c.in_ok-header.ensures.header) said)
    c.judge_lines.ensures
