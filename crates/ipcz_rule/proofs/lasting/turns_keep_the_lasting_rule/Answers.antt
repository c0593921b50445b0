use Rattle.ipcz_rule.proofs.LastsAll.{turns_last}
use Rattle.ipcz_rule.proofs.lasting.turns_keep_the_lasting_rule.Goals as goal

pub returns : goal.returns
returns c = turns_last
