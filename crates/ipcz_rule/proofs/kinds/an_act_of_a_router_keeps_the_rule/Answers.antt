use Rattle.ipcz_rule.proofs.Dropping.{touches_acts_turns}
use Rattle.ipcz_rule.proofs.kinds.an_act_of_a_router_keeps_the_rule.Goals as goal

pub returns : goal.returns
returns c = touches_acts_turns
