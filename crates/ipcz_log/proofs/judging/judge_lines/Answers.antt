use Rattle.std.proofs.Common.{◌≡◌, ◌+◌, [], arith, subst}
use Rattle.ipcz_log.specs.Pieces.{ReadsLine}
use Rattle.ipcz_log.specs.Steps.{JudgesLine}
use Rattle.ipcz_log.proofs.Cutting.{consumes_more, nothing}
use Rattle.ipcz_log.proofs.Hearing.{goes_on, said_allowed, said_none, said_refused}
use Rattle.ipcz_log.proofs.judging.judge_lines.Goals as goal

pub judging-init : goal.judging-init
judging-init g c = (c.requires.works, ([], nothing (g.R.Read.remaining c.args.reader.now.inner)), λ before way. ([], c.in_ok-judge.ensures.nothing, way))

pub returns-in-Refused-clause-said : goal.returns-in-Refused-clause-said
returns-in-Refused-clause-said g c = λ before way.
    let so_far = c.judging.invariant.2 before way in
    said_refused c.args.header.nodes c.args.header.profile c.judging.judge c.hear.new.judge c.judging.number before (g.R.Read.remaining c.judging.reader.inner) (g.R.Read.remaining c.next.new.reader.inner)
    c.judging.lines c.next.new.self c.in_ok-hear.field-0 (subst (λ l. JudgesLine c.judging.judge l c.in_ok-hear.field-0 c.hear.new.judge) c.line.ensures c.in_ok-hear.ensures) c.in-Refused.is so_far
    (subst (λ b. ReadsLine (g.R.Read.remaining c.judging.reader.inner) (g.R.Read.remaining c.next.new.reader.inner) c.judging.lines c.next.new.self b) c.if-branch.true (c.in_ok-next.ensures.line so_far.2.ended))

pub returns-in-NoLine-clause-said : goal.returns-in-NoLine-clause-said
returns-in-NoLine-clause-said g c = λ before way.
    let so_far = c.judging.invariant.2 before way in
    said_none c.args.header.nodes c.args.header.profile c.judging.judge c.hear.new.judge c.judging.number before (g.R.Read.remaining c.judging.reader.inner) (g.R.Read.remaining c.next.new.reader.inner)
    c.judging.lines c.next.new.self c.in_ok-hear.field-0 (subst (λ l. JudgesLine c.judging.judge l c.in_ok-hear.field-0 c.hear.new.judge) c.line.ensures c.in_ok-hear.ensures) c.in-NoLine.is so_far
    (subst (λ b. ReadsLine (g.R.Read.remaining c.judging.reader.inner) (g.R.Read.remaining c.next.new.reader.inner) c.judging.lines c.next.new.self b) c.if-branch.true (c.in_ok-next.ensures.line so_far.2.ended))

pub judging-preserved : goal.judging-preserved
judging-preserved g c = (
  c.in_ok-next.ensures.ok,
  consumes_more (g.R.Read.remaining c.args.reader.now.inner) (g.R.Read.remaining c.judging.reader.inner) (g.R.Read.remaining c.next.new.reader.inner) c.judging.invariant.1 c.in_ok-next.ensures.taken,
  λ before way.
      let so_far = c.judging.invariant.2 before way in
      let more : c.in_ok-number.number ≡ c.judging.number + 1 = grind (arith, c.in_ok-number.ensures, c.ok_or.ensures, c.checked_add.ensures) in
      goes_on c.args.header.nodes c.args.header.profile c.judging.judge c.hear.new.judge c.judging.number c.in_ok-number.number before (g.R.Read.remaining c.judging.reader.inner)
      (g.R.Read.remaining c.next.new.reader.inner) c.judging.lines c.next.new.self c.in_ok-hear.field-0
      (subst (λ l. JudgesLine c.judging.judge l c.in_ok-hear.field-0 c.hear.new.judge) c.line.ensures c.in_ok-hear.ensures) c.in-Allowed.is more so_far
      (subst (λ b. ReadsLine (g.R.Read.remaining c.judging.reader.inner) (g.R.Read.remaining c.next.new.reader.inner) c.judging.lines c.next.new.self b) c.if-branch.true (c.in_ok-next.ensures.line so_far.2.ended)),
)

pub returns-clause-said : goal.returns-clause-said
returns-clause-said g c = λ before way.
    let so_far = c.judging.invariant.2 before way in
    said_allowed c.args.header.nodes c.args.header.profile c.judging.judge c.judging.number before (g.R.Read.remaining c.judging.reader.inner) (g.R.Read.remaining c.next.new.reader.inner)
    c.judging.lines c.next.new.self so_far
    (subst (λ b. ReadsLine (g.R.Read.remaining c.judging.reader.inner) (g.R.Read.remaining c.next.new.reader.inner) c.judging.lines c.next.new.self b) c.if-branch.false (c.in_ok-next.ensures.line so_far.2.ended))

pub returns-in_err-next-clause-taken : goal.returns-in_err-next-clause-taken
returns-in_err-next-clause-taken g c = consumes_more (g.R.Read.remaining c.args.reader.now.inner) (g.R.Read.remaining c.judging.reader.inner) (g.R.Read.remaining c.next.new.reader.inner) c.judging.invariant.1 c.next.ensures.taken

pub returns-in_err-hear-clause-taken : goal.returns-in_err-hear-clause-taken
returns-in_err-hear-clause-taken g c = consumes_more (g.R.Read.remaining c.args.reader.now.inner) (g.R.Read.remaining c.judging.reader.inner) (g.R.Read.remaining c.next.new.reader.inner) c.judging.invariant.1 c.next.ensures.taken

pub returns-in-Refused-clause-taken : goal.returns-in-Refused-clause-taken
returns-in-Refused-clause-taken g c = consumes_more (g.R.Read.remaining c.args.reader.now.inner) (g.R.Read.remaining c.judging.reader.inner) (g.R.Read.remaining c.next.new.reader.inner) c.judging.invariant.1 c.next.ensures.taken

pub returns-in-NoLine-clause-taken : goal.returns-in-NoLine-clause-taken
returns-in-NoLine-clause-taken g c = consumes_more (g.R.Read.remaining c.args.reader.now.inner) (g.R.Read.remaining c.judging.reader.inner) (g.R.Read.remaining c.next.new.reader.inner) c.judging.invariant.1 c.next.ensures.taken

pub returns-in_err-number-clause-taken : goal.returns-in_err-number-clause-taken
returns-in_err-number-clause-taken g c = consumes_more (g.R.Read.remaining c.args.reader.now.inner) (g.R.Read.remaining c.judging.reader.inner) (g.R.Read.remaining c.next.new.reader.inner) c.judging.invariant.1 c.next.ensures.taken

pub returns-clause-taken : goal.returns-clause-taken
returns-clause-taken g c = consumes_more (g.R.Read.remaining c.args.reader.now.inner) (g.R.Read.remaining c.judging.reader.inner) (g.R.Read.remaining c.next.new.reader.inner) c.judging.invariant.1 c.next.ensures.taken
