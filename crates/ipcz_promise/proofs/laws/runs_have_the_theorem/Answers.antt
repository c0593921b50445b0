use Rattle.ipcz_promise.proofs.CallRuns.{runs_have_the_theorem}
use Rattle.ipcz_promise.proofs.laws.runs_have_the_theorem.Goals as goal

pub returns : goal.returns
returns c = runs_have_the_theorem
