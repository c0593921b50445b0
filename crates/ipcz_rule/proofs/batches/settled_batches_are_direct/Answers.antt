use Rattle.ipcz_rule.proofs.BatchedQuiet.{settled_batches}
use Rattle.ipcz_rule.proofs.batches.settled_batches_are_direct.Goals as goal

pub returns : goal.returns
returns c = settled_batches
