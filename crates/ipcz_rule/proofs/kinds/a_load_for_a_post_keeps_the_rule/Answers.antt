use Rattle.ipcz_rule.proofs.Announcing.{loads_for_post_turns}
use Rattle.ipcz_rule.proofs.kinds.a_load_for_a_post_keeps_the_rule.Goals as goal

pub returns : goal.returns
returns c = loads_for_post_turns
