use Rattle.ipcz_promise.proofs.Resting.{rest_closes}
use Rattle.ipcz_promise.proofs.calls.is_quiet.Goals as goal

pub returns-clause-closes : goal.returns-clause-closes
returns-clause-closes c still a kept = rest_closes _ a kept (c.is_quiet.ensures.quiet still)
