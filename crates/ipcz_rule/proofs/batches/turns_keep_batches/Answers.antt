use Rattle.ipcz_rule.proofs.BatchesAll.{plain_turns}
use Rattle.ipcz_rule.proofs.batches.turns_keep_batches.Goals as goal

pub returns : goal.returns
returns c = plain_turns
