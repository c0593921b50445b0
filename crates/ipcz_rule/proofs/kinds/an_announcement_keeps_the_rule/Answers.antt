use Rattle.ipcz_rule.proofs.Announcing.{announces_turns}
use Rattle.ipcz_rule.proofs.kinds.an_announcement_keeps_the_rule.Goals as goal

pub returns : goal.returns
returns c = announces_turns
