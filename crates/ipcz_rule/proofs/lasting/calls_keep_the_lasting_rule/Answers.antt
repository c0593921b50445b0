use Rattle.ipcz_rule.proofs.LastsCalls.{calls_last}
use Rattle.ipcz_rule.proofs.lasting.calls_keep_the_lasting_rule.Goals as goal

pub returns : goal.returns
returns c = calls_last
