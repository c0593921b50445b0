use Rattle.ipcz_rule.proofs.BatchedStart.{batches_start}
use Rattle.ipcz_rule.proofs.batches.the_start_keeps_batches.Goals as goal

pub returns : goal.returns
returns c = batches_start
