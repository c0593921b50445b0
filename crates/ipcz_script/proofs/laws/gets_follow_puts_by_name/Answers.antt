use Rattle.ipcz_script.proofs.ParcelsByName.{gets_follow_puts_by_name}
use Rattle.ipcz_script.proofs.laws.gets_follow_puts_by_name.Goals as goal

pub returns : goal.returns
returns c = gets_follow_puts_by_name
