use Rattle.ipcz_promise.proofs.CallPromises.{promised}
use Rattle.ipcz_promise.proofs.calls.step.Goals as goal

pub returns-clause-promise : goal.returns-clause-promise
returns-clause-promise c = promised _ _ _ _ c.step.ensures.step
