use Rattle.ipcz_rule.proofs.Calling.{gets_deeds}
use Rattle.ipcz_rule.proofs.kinds.a_get_keeps_the_rule.Goals as goal

pub returns : goal.returns
returns c = gets_deeds
