use Rattle.ipcz_shown.proofs.Tables.{quiet_tables_deliver}
use Rattle.ipcz_shown.proofs.laws.quiet_tables_deliver.Goals as goal

pub returns : goal.returns
returns c = quiet_tables_deliver
