use Rattle.ipcz_rule.proofs.Handling.{hands_turns}
use Rattle.ipcz_rule.proofs.kinds.a_hand_keeps_the_rule.Goals as goal

pub returns : goal.returns
returns c = hands_turns
