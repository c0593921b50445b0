use Rattle.ipcz_promise.proofs.Tests.{promise_refuses}
use Rattle.ipcz_promise.proofs.laws.the_promise_refuses.Goals as goal

pub returns : goal.returns
returns c = promise_refuses
