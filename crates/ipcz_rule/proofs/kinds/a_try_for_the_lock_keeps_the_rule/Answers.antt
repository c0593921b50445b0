use Rattle.ipcz_rule.proofs.WordKinds.{tries_lock_turns}
use Rattle.ipcz_rule.proofs.kinds.a_try_for_the_lock_keeps_the_rule.Goals as goal

pub returns : goal.returns
returns c = tries_lock_turns
