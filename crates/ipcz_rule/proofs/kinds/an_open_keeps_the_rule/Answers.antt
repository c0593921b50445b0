use Rattle.ipcz_rule.proofs.Opening.{opens_deeds}
use Rattle.ipcz_rule.proofs.kinds.an_open_keeps_the_rule.Goals as goal

pub returns : goal.returns
returns c = opens_deeds
