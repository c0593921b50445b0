use Rattle.ipcz_promise.proofs.Kept.{steps_keep_the_promise}
use Rattle.ipcz_promise.proofs.laws.each_step_keeps_the_promise.Goals as goal

pub returns : goal.returns
returns c = steps_keep_the_promise
