use Rattle.ipcz_node.proofs.state.NodeState.deliver_at_once.Goals as goal

pub returns-in-Item-clause-tried : goal.returns-in-Item-clause-tried
returns-in-Item-clause-tried c source = rw c.in-Item.is (c.take_lone.ensures.tried source)
