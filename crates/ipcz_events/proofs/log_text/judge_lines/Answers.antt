use Rattle.std.proofs.Common.{◌≡◌, ◌+◌, arith, sym, ◌∙◌}
use Rattle.ipcz_events.specs.Verdicts.{text_lines}
use Rattle.ipcz_events.proofs.Hearing.{begins_with, goes_on, none_left, said_allowed, said_none, said_refused, some_left}
use Rattle.ipcz_events.proofs.log_text.judge_lines.Goals as goal

pub loop-rest-init : goal.loop-rest-init
loop-rest-init c = (
  begins_with c.args.header.nodes c.args.header.words c.in_ok-session.session (text_lines c.args.text.now) c.in_ok-session.ensures.session,
  c.in_ok-follower.ensures.session ∙ sym c.in_ok-session.ensures.session,
)

pub hear-requires-clause-alike : goal.hear-requires-clause-alike
hear-requires-clause-alike c = c.loop-rest.invariant.1

pub returns-in-Refused : goal.returns-in-Refused
returns-in-Refused c =
    said_refused c.args.header.nodes c.args.header.words c.loop-rest.session c.hear.new.session c.loop-rest.line (text_lines c.args.text.now) c.loop-rest.rest.now c.line_len-len.result
    c.in_ok-hear.field-0 c.in-Refused.instead c.in-Refused.possible (some_left c.loop-rest.rest.now c.is_empty.result c.is_empty.ensures c.loop-rest-test.true)
    c.line_len-len.ensures.len c.in_ok-hear.ensures.heard c.in-Refused.is
    c.loop-rest.invariant.0

pub returns-in-NoLine : goal.returns-in-NoLine
returns-in-NoLine c = said_none c.args.header.nodes c.args.header.words c.loop-rest.session c.hear.new.session c.loop-rest.line (text_lines c.args.text.now) c.loop-rest.rest.now c.line_len-len.result
    c.in_ok-hear.field-0 (some_left c.loop-rest.rest.now c.is_empty.result c.is_empty.ensures c.loop-rest-test.true) c.line_len-len.ensures.len c.in_ok-hear.ensures.heard c.in-NoLine.is
    c.loop-rest.invariant.0

pub loop-rest-preserved : goal.loop-rest-preserved
loop-rest-preserved c =
    let more : c.in_ok-line.line ≡ c.loop-rest.line + 1 = grind (arith, c.in_ok-line.ensures, c.ok_or.ensures, c.checked_add.ensures) in (
      goes_on c.args.header.nodes c.args.header.words c.loop-rest.session c.hear.new.session c.loop-rest.line c.in_ok-line.line (text_lines c.args.text.now) c.loop-rest.rest.now c.behind-rest.result.now c.line_len-len.result
          c.in_ok-hear.field-0 (some_left c.loop-rest.rest.now c.is_empty.result c.is_empty.ensures c.loop-rest-test.true) c.line_len-len.ensures.len c.in_ok-hear.ensures.heard c.in-Allowed.is
          c.behind-rest.ensures more c.loop-rest.invariant.0,
      c.in_ok-hear.ensures.alike c.in-Allowed.is,
    )

pub returns : goal.returns
returns c = said_allowed c.args.header.nodes c.args.header.words c.loop-rest.session c.loop-rest.line (text_lines c.args.text.now) c.loop-rest.rest.now
    (none_left c.loop-rest.rest.now c.is_empty.result c.is_empty.ensures c.loop-rest-test.false) c.loop-rest.invariant.0
