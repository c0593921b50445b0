use Rattle.std.proofs.Common.{◌≡◌, ◌+◌, [], arith, subst}
use Rattle.ipcz_log.specs.Pieces.{ReadsLine}
use Rattle.ipcz_log.specs.Verdicts.{IsEntry}
use Rattle.ipcz_log.proofs.Cutting.{consumes_more, nothing}
use Rattle.ipcz_log.proofs.Hearing.{logs_none, logs_on, logs_read}
use Rattle.ipcz_log.proofs.judging.read_lines.Goals as goal

pub collecting-init : goal.collecting-init
collecting-init g c = (c.requires.works, ([], nothing (g.R.Read.remaining c.args.reader.now.inner)), λ before nodes profile has way. ([], has, way))

pub returns-in_default-clause-read : goal.returns-in_default-clause-read
returns-in_default-clause-read g c = λ before nodes profile has way.
    let so_far = c.collecting.invariant.2 before nodes profile has way in
    logs_none nodes profile c.args.count c.collecting.logs c.collecting.number before (g.R.Read.remaining c.collecting.reader.inner) (g.R.Read.remaining c.next.new.reader.inner) c.collecting.lines c.next.new.self
    (subst (λ o. IsEntry c.args.count c.collecting.number c.next.new.self.line o) c.in_default.is (subst (λ l. IsEntry c.args.count c.collecting.number l c.in_ok-entry.field-0) c.line.ensures c.in_ok-entry.ensures.entry)) so_far
    (subst (λ b. ReadsLine (g.R.Read.remaining c.collecting.reader.inner) (g.R.Read.remaining c.next.new.reader.inner) c.collecting.lines c.next.new.self b) c.if-branch.true (c.in_ok-next.ensures.line so_far.2.ended))

pub collecting-preserved : goal.collecting-preserved
collecting-preserved g c = (
  c.in_ok-next.ensures.ok,
  consumes_more (g.R.Read.remaining c.args.reader.now.inner) (g.R.Read.remaining c.collecting.reader.inner) (g.R.Read.remaining c.next.new.reader.inner) c.collecting.invariant.1 c.in_ok-next.ensures.taken,
  λ before nodes profile has way.
      let so_far = c.collecting.invariant.2 before nodes profile has way in
      let more : c.in_ok-number.number ≡ c.collecting.number + 1 = grind (arith, c.in_ok-number.ensures, c.ok_or.ensures, c.checked_add.ensures) in
      logs_on nodes profile c.args.count c.collecting.logs c.push.new.self c.collecting.number c.in_ok-number.number before (g.R.Read.remaining c.collecting.reader.inner) (g.R.Read.remaining c.next.new.reader.inner)
      c.collecting.lines c.next.new.self c.in-Some.entry
      (subst (λ o. IsEntry c.args.count c.collecting.number c.next.new.self.line o) c.in-Some.is (subst (λ l. IsEntry c.args.count c.collecting.number l c.in_ok-entry.field-0) c.line.ensures c.in_ok-entry.ensures.entry))
      c.in_ok-push.ensures.more more so_far
      (subst (λ b. ReadsLine (g.R.Read.remaining c.collecting.reader.inner) (g.R.Read.remaining c.next.new.reader.inner) c.collecting.lines c.next.new.self b) c.if-branch.true (c.in_ok-next.ensures.line so_far.2.ended)),
)

pub returns-clause-read : goal.returns-clause-read
returns-clause-read g c = λ before nodes profile has way.
    let so_far = c.collecting.invariant.2 before nodes profile has way in
    logs_read nodes profile c.args.count c.collecting.logs c.collecting.number before (g.R.Read.remaining c.collecting.reader.inner) (g.R.Read.remaining c.next.new.reader.inner) c.collecting.lines c.next.new.self so_far
    (subst (λ b. ReadsLine (g.R.Read.remaining c.collecting.reader.inner) (g.R.Read.remaining c.next.new.reader.inner) c.collecting.lines c.next.new.self b) c.if-branch.false (c.in_ok-next.ensures.line so_far.2.ended))

pub returns-in_err-next-clause-taken : goal.returns-in_err-next-clause-taken
returns-in_err-next-clause-taken g c = consumes_more (g.R.Read.remaining c.args.reader.now.inner) (g.R.Read.remaining c.collecting.reader.inner) (g.R.Read.remaining c.next.new.reader.inner) c.collecting.invariant.1 c.next.ensures.taken

pub returns-in_err-entry-clause-taken : goal.returns-in_err-entry-clause-taken
returns-in_err-entry-clause-taken g c = consumes_more (g.R.Read.remaining c.args.reader.now.inner) (g.R.Read.remaining c.collecting.reader.inner) (g.R.Read.remaining c.next.new.reader.inner) c.collecting.invariant.1 c.next.ensures.taken

pub returns-in_default-clause-taken : goal.returns-in_default-clause-taken
returns-in_default-clause-taken g c = consumes_more (g.R.Read.remaining c.args.reader.now.inner) (g.R.Read.remaining c.collecting.reader.inner) (g.R.Read.remaining c.next.new.reader.inner) c.collecting.invariant.1 c.next.ensures.taken

pub returns-in_err-push-clause-taken : goal.returns-in_err-push-clause-taken
returns-in_err-push-clause-taken g c = consumes_more (g.R.Read.remaining c.args.reader.now.inner) (g.R.Read.remaining c.collecting.reader.inner) (g.R.Read.remaining c.next.new.reader.inner) c.collecting.invariant.1 c.next.ensures.taken

pub returns-in_err-number-clause-taken : goal.returns-in_err-number-clause-taken
returns-in_err-number-clause-taken g c = consumes_more (g.R.Read.remaining c.args.reader.now.inner) (g.R.Read.remaining c.collecting.reader.inner) (g.R.Read.remaining c.next.new.reader.inner) c.collecting.invariant.1 c.next.ensures.taken

pub returns-clause-taken : goal.returns-clause-taken
returns-clause-taken g c = consumes_more (g.R.Read.remaining c.args.reader.now.inner) (g.R.Read.remaining c.collecting.reader.inner) (g.R.Read.remaining c.next.new.reader.inner) c.collecting.invariant.1 c.next.ensures.taken
