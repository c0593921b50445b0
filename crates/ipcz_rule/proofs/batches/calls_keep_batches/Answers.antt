use Rattle.ipcz_rule.proofs.BatchesAll.{plain_deeds}
use Rattle.ipcz_rule.proofs.batches.calls_keep_batches.Goals as goal

pub returns : goal.returns
returns c = plain_deeds
