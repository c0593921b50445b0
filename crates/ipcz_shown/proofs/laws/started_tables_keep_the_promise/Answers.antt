use Rattle.ipcz_shown.proofs.Runs.{started_tables_keep_the_promise}
use Rattle.ipcz_shown.proofs.laws.started_tables_keep_the_promise.Goals as goal

pub returns : goal.returns
returns c = started_tables_keep_the_promise
