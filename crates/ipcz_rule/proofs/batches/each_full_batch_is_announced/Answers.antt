use Rattle.ipcz_rule.proofs.BatchedLaws.{full_announced}
use Rattle.ipcz_rule.proofs.batches.each_full_batch_is_announced.Goals as goal

pub returns : goal.returns
returns c = full_announced
