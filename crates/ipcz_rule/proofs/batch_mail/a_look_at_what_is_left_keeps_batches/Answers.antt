use Rattle.ipcz_rule.proofs.BatchMailKinds.{looks_at_what_is_left_turns}
use Rattle.ipcz_rule.proofs.batch_mail.a_look_at_what_is_left_keeps_batches.Goals as goal

pub returns : goal.returns
returns c = looks_at_what_is_left_turns
