use Rattle.ipcz_promise.proofs.Tests.{promise_allows}
use Rattle.ipcz_promise.proofs.laws.the_promise_allows.Goals as goal

pub returns : goal.returns
returns c = promise_allows
