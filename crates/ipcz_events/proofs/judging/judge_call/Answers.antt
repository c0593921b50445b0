use Rattle.std.proofs.Common.{◌≡◌, ◌∙◌, ◌++◌, ◌∷◌, [], subst, sym}
use Rattle.ipcz_script.specs.Lines.{lines_of}
use Rattle.ipcz_events.proofs.Deciding.{call_judged, no_call}
use Rattle.ipcz_events.proofs.judging.judge_call.Goals as goal

pub returns-then-not-is_call : goal.returns-then-not-is_call
returns-then-not-is_call c = no_call c.args.session.now c.args.session.now c.args.command.now c.args.line.now (sym c.is_call.ensures ∙ c.if-not-is_call.true)

pub returns : goal.returns
returns c =
    call_judged c.args.session.now c.run.new.self c.args.command.now c.args.line.now c.in_ok-said.said c.in_ok-text.text.items c.compared.result
    (sym c.is_call.ensures ∙ c.if-not-is_call.false) c.in_ok-said.ensures.runs
    (subst (λ x. lines_of x c.args.command.now c.in_ok-said.said ≡ c.in_ok-text.text.items ++ 10 ∷ []) c.titles.ensures.titles c.in_ok-text.ensures) c.compared.ensures
