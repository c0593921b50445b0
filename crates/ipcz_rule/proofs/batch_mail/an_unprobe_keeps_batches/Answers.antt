use Rattle.ipcz_rule.proofs.BatchMailKinds.{unprobes_turns}
use Rattle.ipcz_rule.proofs.batch_mail.an_unprobe_keeps_batches.Goals as goal

pub returns : goal.returns
returns c = unprobes_turns
