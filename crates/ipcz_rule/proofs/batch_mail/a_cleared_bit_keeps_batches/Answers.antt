use Rattle.ipcz_rule.proofs.BatchMailKinds.{clears_turns}
use Rattle.ipcz_rule.proofs.batch_mail.a_cleared_bit_keeps_batches.Goals as goal

pub returns : goal.returns
returns c = clears_turns
