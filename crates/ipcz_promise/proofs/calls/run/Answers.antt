use Rattle.ipcz_promise.proofs.CallPromises.{result-promised}
use Rattle.ipcz_promise.proofs.calls.run.Goals as goal

pub returns-clause-promise : goal.returns-clause-promise
returns-clause-promise c = result-promised _ _ _ (λ replies. replies.items) c.run.result c.run.ensures.run
