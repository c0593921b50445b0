use Rattle.ipcz_rule.proofs.BatchedLaws.{counts_reached}
use Rattle.ipcz_rule.proofs.batches.each_count_was_reached.Goals as goal

pub returns : goal.returns
returns c = counts_reached
