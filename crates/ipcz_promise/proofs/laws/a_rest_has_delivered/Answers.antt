use Rattle.ipcz_promise.proofs.Kept.{a_rest_delivers}
use Rattle.ipcz_promise.proofs.laws.a_rest_has_delivered.Goals as goal

pub returns : goal.returns
returns c = a_rest_delivers
