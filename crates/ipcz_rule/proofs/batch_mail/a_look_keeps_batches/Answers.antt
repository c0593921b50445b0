use Rattle.ipcz_rule.proofs.BatchMailKinds.{looks_turns}
use Rattle.ipcz_rule.proofs.batch_mail.a_look_keeps_batches.Goals as goal

pub returns : goal.returns
returns c = looks_turns
