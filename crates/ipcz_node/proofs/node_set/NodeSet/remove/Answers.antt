use Rattle.ipcz_node.proofs.NodeSets.{far_out, taken_out}
use Rattle.ipcz_node.proofs.node_set.NodeSet.remove.Goals as goal

pub returns-then-node-lt64 : goal.returns-then-node-lt64
returns-then-node-lt64 c = λ n small. taken_out c.args.self.now.bits c.args.node n c.if-node-lt64.true small

pub returns-else-node-lt64 : goal.returns-else-node-lt64
returns-else-node-lt64 c = λ n small. far_out c.args.self.now c.args.node n c.if-node-lt64.false small
