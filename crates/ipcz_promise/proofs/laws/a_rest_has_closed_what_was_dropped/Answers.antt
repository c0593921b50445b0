use Rattle.ipcz_promise.proofs.Resting.{rest_closes}
use Rattle.ipcz_promise.proofs.laws.a_rest_has_closed_what_was_dropped.Goals as goal

pub returns : goal.returns
returns c = rest_closes
