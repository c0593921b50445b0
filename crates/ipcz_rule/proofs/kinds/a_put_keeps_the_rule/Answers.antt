use Rattle.ipcz_rule.proofs.Putting.{puts_deeds}
use Rattle.ipcz_rule.proofs.kinds.a_put_keeps_the_rule.Goals as goal

pub returns : goal.returns
returns c = puts_deeds
