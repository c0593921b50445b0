use Rattle.ipcz_rule.proofs.WordKinds.{wakes_turns}
use Rattle.ipcz_rule.proofs.kinds.a_wake_keeps_the_rule.Goals as goal

pub returns : goal.returns
returns c = wakes_turns
