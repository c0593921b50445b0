use Rattle.ipcz_rule.proofs.BatchedLaws.{nodes_somewhere}
use Rattle.ipcz_rule.proofs.batches.each_node_is_somewhere.Goals as goal

pub returns : goal.returns
returns c = nodes_somewhere
