use Rattle.ipcz_node.proofs.state.NodeState.asked.Goals as goal

pub returns : goal.returns
returns c = rw (← c.link_asked.ensures, ← c.side_asked.ensures) (c.link_serial.ensures.none, c.link_serial.ensures.found)
