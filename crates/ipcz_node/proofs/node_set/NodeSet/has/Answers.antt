use Rattle.ipcz_node.proofs.NodeSets.{beyond}
use Rattle.ipcz_node.proofs.node_set.NodeSet.has.Goals as goal

pub returns-else-node-lt64 : goal.returns-else-node-lt64
returns-else-node-lt64 c = beyond c.args.self c.args.node c.if-node-lt64.false
