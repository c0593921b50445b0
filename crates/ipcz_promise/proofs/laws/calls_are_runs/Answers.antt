use Rattle.ipcz_promise.proofs.CallRuns.{calls_are_runs}
use Rattle.ipcz_promise.proofs.laws.calls_are_runs.Goals as goal

pub returns : goal.returns
returns c = calls_are_runs
