use Rattle.ipcz_rule.proofs.LastsStart.{start_lasts}
use Rattle.ipcz_rule.proofs.lasting.the_start_keeps_the_lasting_rule.Goals as goal

pub returns : goal.returns
returns c = start_lasts
