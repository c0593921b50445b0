use Rattle.ipcz_rule.proofs.BatchedQuiet.{quiet_batches}
use Rattle.ipcz_rule.proofs.batches.quiet_batches_show_a_quiet_world.Goals as goal

pub returns : goal.returns
returns c = quiet_batches
