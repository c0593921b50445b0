use Rattle.ipcz_rule.proofs.Calling.{pending_closes_turns}
use Rattle.ipcz_rule.proofs.kinds.a_pending_close_keeps_the_rule.Goals as goal

pub returns : goal.returns
returns c = pending_closes_turns
