use Rattle.ipcz_rule.proofs.Posting.{posts_turns}
use Rattle.ipcz_rule.proofs.kinds.a_post_keeps_the_rule.Goals as goal

pub returns : goal.returns
returns c = posts_turns
