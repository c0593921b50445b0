use Rattle.ipcz_rule.proofs.WordKinds.{loads_for_hand_turns}
use Rattle.ipcz_rule.proofs.kinds.a_load_for_a_hand_keeps_the_rule.Goals as goal

pub returns : goal.returns
returns c = loads_for_hand_turns
