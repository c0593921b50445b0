use Rattle.std.proofs.Common.{◌≡◌, ap, ◌∙◌, ◌++◌, ◌∷◌, []}
use Rattle.std.proofs.lemmas.Result.{IfOk-weaker}
use Rattle.ipcz_script.specs.Lines.{lines_of}
use Rattle.ipcz_events.proofs.Deciding.{but_feed}
use Rattle.ipcz_events.proofs.judging.answered.Goals as goal

pub returns : goal.returns
returns c =
    IfOk-weaker c.from_slice.result (λ v. v.items ≡ c.without_last.result.now)
    (λ v. lines_of c.args.titles.now c.args.command.now c.args.said.now ≡ v.items ++ 10 ∷ [])
    (λ v is. but_feed c.args.titles.now c.args.command.now c.args.said.now c.as_slice.result.now v.items c.requires
    (c.as_slice.ensures.value ∙ c.in_ok-push_answer.ensures.lines ∙ ap (λ x. x ++ lines_of c.args.titles.now c.args.command.now c.args.said.now) c.new-text.ensures.items)
    (is ∙ c.without_last.ensures)) c.from_slice.ensures.items
