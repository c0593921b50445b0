use Rattle.ipcz_rule.proofs.WordKinds.{unlocks_turns}
use Rattle.ipcz_rule.proofs.kinds.an_unlock_keeps_the_rule.Goals as goal

pub returns : goal.returns
returns c = unlocks_turns
