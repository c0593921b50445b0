use Rattle.ipcz_rule.proofs.WordKinds.{marks_turns}
use Rattle.ipcz_rule.proofs.kinds.a_mark_keeps_the_rule.Goals as goal

pub returns : goal.returns
returns c = marks_turns
