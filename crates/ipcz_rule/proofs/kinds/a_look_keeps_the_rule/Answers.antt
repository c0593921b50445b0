use Rattle.ipcz_rule.proofs.Posting.{looks_turns}
use Rattle.ipcz_rule.proofs.kinds.a_look_keeps_the_rule.Goals as goal

pub returns : goal.returns
returns c = looks_turns
