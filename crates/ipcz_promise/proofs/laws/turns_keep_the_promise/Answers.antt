use Rattle.ipcz_promise.proofs.TurnRuns.{turns_keep_the_promise}
use Rattle.ipcz_promise.proofs.laws.turns_keep_the_promise.Goals as goal

pub returns : goal.returns
returns c = turns_keep_the_promise
