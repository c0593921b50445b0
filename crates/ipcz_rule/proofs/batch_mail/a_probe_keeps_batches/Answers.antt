use Rattle.ipcz_rule.proofs.BatchMailKinds.{probes_turns}
use Rattle.ipcz_rule.proofs.batch_mail.a_probe_keeps_batches.Goals as goal

pub returns : goal.returns
returns c = probes_turns
