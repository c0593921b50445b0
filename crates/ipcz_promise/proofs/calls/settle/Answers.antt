use Rattle.ipcz_promise.proofs.CallPromises.{settle-promised, settle-quiet}
use Rattle.ipcz_promise.proofs.Resting.{rest_closes}
use Rattle.ipcz_promise.proofs.calls.settle.Goals as goal

pub returns-clause-promise : goal.returns-clause-promise
returns-clause-promise c = settle-promised c.args.limit _ _ _ c.settle.ensures.settles c.settle.ensures.refused

pub returns-clause-quiet : goal.returns-clause-quiet
returns-clause-quiet c = settle-quiet c.args.limit _ _ _ c.settle.ensures.settles

pub returns-clause-closes : goal.returns-clause-closes
returns-clause-closes c turns settled a kept = rest_closes _ a kept (settle-quiet c.args.limit _ _ _ c.settle.ensures.settles turns settled)
