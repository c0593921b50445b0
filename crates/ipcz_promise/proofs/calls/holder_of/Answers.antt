use Rattle.std.proofs.Common.{◌∙◌}
use Rattle.ipcz_promise.proofs.HolderOf.{holder-promised}
use Rattle.ipcz_promise.proofs.calls.holder_of.Goals as goal

pub returns : goal.returns
returns c = record { promise = λ a k. c.holder_of.ensures ∙ holder-promised _ c.args.portal a k }
