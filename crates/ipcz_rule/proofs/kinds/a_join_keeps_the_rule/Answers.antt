use Rattle.ipcz_rule.proofs.Joining.{joins}
use Rattle.ipcz_rule.proofs.kinds.a_join_keeps_the_rule.Goals as goal

pub returns : goal.returns
returns c = joins
