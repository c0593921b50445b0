use Rattle.ipcz_rule.proofs.LastsCalls.{opens_last}
use Rattle.ipcz_rule.proofs.lasting.an_open_keeps_the_lasting_rule.Goals as goal

pub returns : goal.returns
returns c = opens_last
