use Rattle.std.proofs.Common.{true, ◌≡◌, ◌+◌, ◌∙◌, ap, sym, subst, arith}
use Rattle.ipcz_verdict.specs.contracts.judge.Judge.{the_view}
use Rattle.ipcz_verdict.specs.declared.line.Line.TheVariants as lines
use Rattle.ipcz_verdict.specs.Desks.{Decides, Desk, may_open}
use Rattle.ipcz_verdict.proofs.Lines.{not_opened_line, opened_here}
use Rattle.ipcz_verdict.proofs.judge.Judge.opened.Goals as goal
use Rattle.ipcz_base.specs.declared.side.Side.TheVariants.{A, B}
use Rattle.ipcz_base.specs.Ends.{end_at}
use Rattle.ipcz_script.specs.Labels.{bind}

pub returns-then-not-may_open-clause-decided : goal.returns-then-not-may_open-clause-decided
returns-then-not-may_open-clause-decided c = not_opened_line c.args.self.now c.args.self.now c.args.node c.args.first.now c.args.second.now (sym c.may_open.ensures ∙ c.if-not-may_open.true)

pub returns-clause-decided : goal.returns-clause-decided
returns-clause-decided c =
    let more : c.in-Some.pairs ≡ c.self.inside.pairs + 1 = grind (arith, c.in-Some.ensures) in
    let first = c.in_ok-bind.ensures ∙ ap (λ name. bind c.self.inside.labels name (end_at c.self.inside.pairs A)) c.as_str.ensures.same in
    let second = c.in_ok-bind-2.ensures ∙ ap (λ name. bind c.bind.new.self name c.opposite.result) c.as_str-2.ensures.same
    ∙ ap (λ e. bind c.bind.new.self c.args.second.now e) c.opposite.ensures ∙ ap (λ l. bind l c.args.second.now (end_at c.self.inside.pairs B)) first in
    subst (λ (d : Desk). Decides d (lines.Opened c.args.node c.args.first.now c.args.second.now) true (record (the_view c.self.inside) { portals = c.push-2.new.self.items; pairs = c.in-Some.pairs; labels = c.bind-2.new.self })) c.self.view_is
    (opened_here (the_view c.self.inside) c.push.new.self.items c.push-2.new.self.items c.new.result c.new-2.result c.in-Some.pairs c.args.node c.args.first.now c.args.second.now
    c.bind-2.new.self (ap (λ (d : Desk). may_open d c.args.node c.args.first.now c.args.second.now) c.self.view_is ∙ sym c.may_open.ensures ∙ c.if-not-may_open.false)
    c.in_ok-push.ensures.items c.in_ok-push-2.ensures.items c.new.ensures c.new-2.ensures more second)
