use Rattle.ipcz_rule.proofs.BatchMailKinds.{posts_turns}
use Rattle.ipcz_rule.proofs.batch_mail.a_post_keeps_batches.Goals as goal

pub returns : goal.returns
returns c = posts_turns
