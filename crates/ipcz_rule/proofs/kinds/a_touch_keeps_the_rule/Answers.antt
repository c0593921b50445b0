use Rattle.ipcz_rule.proofs.TouchActs.{touch_acts}
use Rattle.ipcz_rule.proofs.kinds.a_touch_keeps_the_rule.Goals as goal

pub returns : goal.returns
returns c = touch_acts
