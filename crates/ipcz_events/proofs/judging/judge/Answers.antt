use Rattle.std.specs.Prelude.{IfOk}
use Rattle.std.proofs.Common.{sym, subst}
use Rattle.ipcz_events.specs.declared.entry.Entry.TheVariants as entries
use Rattle.ipcz_events.specs.Judging.{Judges}
use Rattle.ipcz_events.proofs.judging.judge.Goals as goal

pub returns-in-Call : goal.returns-in-Call
returns-in-Call c =
    subst (λ entry. IfOk c.judge_call.result (λ judged. Judges c.args.session.now entry judged c.judge_call.new.session)) (sym c.in-Call.is)
    (subst (λ line. IfOk c.judge_call.result (λ judged. Judges c.args.session.now (entries.Call c.in-Call.command line) judged c.judge_call.new.session))
    c.as_str.ensures.same c.judge_call.ensures)

pub returns-in-Acted : goal.returns-in-Acted
returns-in-Acted c =
    subst (λ entry. IfOk c.judge_act.result (λ judged. Judges c.args.session.now entry judged c.judge_act.new.session)) (sym c.in-Acted.is)
    (subst (λ event. IfOk c.judge_act.result (λ judged. Judges c.args.session.now (entries.Acted c.in-Acted.node event) judged
    c.judge_act.new.session)) c.as_str-in-Acted.ensures.same c.judge_act.ensures)
