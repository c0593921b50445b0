use Rattle.ipcz_shown.proofs.Tables.{table_turns_keep_the_promise}
use Rattle.ipcz_shown.proofs.laws.table_turns_keep_the_promise.Goals as goal

pub returns : goal.returns
returns c = table_turns_keep_the_promise
