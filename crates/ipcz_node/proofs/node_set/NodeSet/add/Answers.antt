use Rattle.ipcz_node.proofs.NodeSets.{added}
use Rattle.ipcz_node.proofs.node_set.NodeSet.add.Goals as goal

pub returns-then-node-lt64 : goal.returns-then-node-lt64
returns-then-node-lt64 c = λ n small. added c.args.self.now.bits c.args.node n c.if-node-lt64.true small
