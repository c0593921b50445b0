use Rattle.ipcz_shown.proofs.Runs.{table_runs_keep_the_promise}
use Rattle.ipcz_shown.proofs.laws.table_runs_keep_the_promise.Goals as goal

pub returns : goal.returns
returns c = table_runs_keep_the_promise
