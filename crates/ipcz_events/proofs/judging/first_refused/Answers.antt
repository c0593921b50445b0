use Rattle.std.proofs.Common.{◌≡◌, ◌+◌, Some, None, drop, subst, arith}
use Rattle.ipcz_script.specs.Sessions.{new_session}
use Rattle.ipcz_script.proofs.Writing.{next_of, past}
use Rattle.ipcz_events.specs.Judging.{Judges}
use Rattle.ipcz_events.proofs.Logs.{on_end, on_next, on_refused, verdict_of}
use Rattle.ipcz_events.proofs.judging.first_refused.Goals as goal

pub returns-in-Refused : goal.returns-in-Refused
returns-in-Refused c =
    let i = c.loop-entry.entry-index in
    verdict_of c.args.nodes c.args.words c.args.log.now (Some c.loop-entry.number)
    (on_refused (new_session c.args.nodes c.args.words) c.loop-entry.session c.args.log.now (drop i c.args.log.now) (drop (i + 1) c.args.log.now)
    c.entry-item.result c.loop-entry.number c.loop-entry.invariant
    (next_of c.args.log.now i c.entry-item.result c.loop-entry-test.true c.entry-item.is)
    (subst (λ j. Judges c.loop-entry.session c.entry-item.result j c.judge.new.session) c.in-Refused.is c.in_ok-judge.ensures).0)

pub loop-entry-preserved : goal.loop-entry-preserved
loop-entry-preserved c =
    let i = c.loop-entry.entry-index in
    let more : c.in_ok-number.number ≡ c.loop-entry.number + 1 = grind (arith, c.in_ok-number.ensures, c.ok_or.ensures, c.checked_add.ensures) in
    on_next (new_session c.args.nodes c.args.words) c.loop-entry.session c.args.log.now (drop i c.args.log.now) (drop (i + 1) c.args.log.now)
    c.entry-item.result c.loop-entry.number c.loop-entry.invariant c.judge.new.session c.in_ok-number.number
    (next_of c.args.log.now i c.entry-item.result c.loop-entry-test.true c.entry-item.is) more
    (subst (λ j. Judges c.loop-entry.session c.entry-item.result j c.judge.new.session) c.in-Allowed.is c.in_ok-judge.ensures)

pub returns : goal.returns
returns c =
    verdict_of c.args.nodes c.args.words c.args.log.now None
    (on_end (new_session c.args.nodes c.args.words) c.loop-entry.session c.args.log.now (drop c.loop-entry.entry-index c.args.log.now)
    c.loop-entry.number c.loop-entry.invariant (past c.args.log.now c.loop-entry.entry-index c.loop-entry-test.false))
