use Rattle.ipcz_rule.proofs.WordKinds.{loads_turns}
use Rattle.ipcz_rule.proofs.kinds.a_load_keeps_the_rule.Goals as goal

pub returns : goal.returns
returns c = loads_turns
