use Rattle.std.proofs.Common.{◌∙◌, sym}
use Rattle.ipcz_promise.proofs.calls.words_left.Goals as goal

pub returns : goal.returns
returns c = record { promise = λ a kept. c.words_left.ensures ∙ sym kept.words }
