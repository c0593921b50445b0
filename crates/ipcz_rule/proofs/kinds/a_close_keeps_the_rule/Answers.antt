use Rattle.ipcz_rule.proofs.Calling.{closes_deeds}
use Rattle.ipcz_rule.proofs.kinds.a_close_keeps_the_rule.Goals as goal

pub returns : goal.returns
returns c = closes_deeds
