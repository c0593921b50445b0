use Rattle.ipcz_script.proofs.UnsettledLines.{unsettled_is_written}
use Rattle.ipcz_script.proofs.laws.unsettled_is_written.Goals as goal

pub returns : goal.returns
returns c = unsettled_is_written
