use Rattle.std.proofs.lemmas.Result.{IfOk-weaker}
use Rattle.ipcz_events.specs.RunOutputs.{IsEndedText, IsRunOutput}
use Rattle.ipcz_events.proofs.RunTexts.{ended_output}
use Rattle.ipcz_events.proofs.run_text.run_output.Goals as goal

pub returns-in-Ok : goal.returns-in-Ok
returns-in-Ok c =
    IfOk-weaker c.ended_text.result (λ w. IsEndedText c.in-Ok.schedule c.args.seed w.0 w.1.items) (λ w. IsRunOutput c.args.seed c.args.input.now w.0 w.1.items)
    (λ w h. ended_output c.args.seed c.args.input.now c.in-Ok.schedule w.0 w.1.items c.in-Ok.ensures.answer h) c.ended_text.ensures
