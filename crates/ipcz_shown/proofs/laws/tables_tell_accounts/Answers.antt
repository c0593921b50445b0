use Rattle.ipcz_shown.proofs.Telling.{tables_tell_accounts}
use Rattle.ipcz_shown.proofs.laws.tables_tell_accounts.Goals as goal

pub returns : goal.returns
returns c = tables_tell_accounts
