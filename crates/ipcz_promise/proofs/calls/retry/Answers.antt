use Rattle.ipcz_promise.proofs.Retrying.{asked-keeps, asked-claimed, asked-still}
use Rattle.ipcz_promise.proofs.calls.retry.Goals as goal

pub returns-clause-promise : goal.returns-clause-promise
returns-clause-promise c = asked-keeps _ _ c.retry.ensures.each c.retry.ensures.lawful

pub returns-clause-claimed : goal.returns-clause-claimed
returns-clause-claimed c = asked-claimed _ _ c.retry.ensures.each

pub returns-clause-still : goal.returns-clause-still
returns-clause-still c = asked-still _ _ c.retry.result c.retry.ensures.asked
