use Rattle.ipcz_rule.proofs.BatchMailKinds.{gives_back_turns}
use Rattle.ipcz_rule.proofs.batch_mail.giving_a_slot_back_keeps_batches.Goals as goal

pub returns : goal.returns
returns c = gives_back_turns
