use Rattle.std.proofs.Common.{◌≡◌, ◌++◌}
use Rattle.ipcz_world.proofs.code.StatesOfNodes.{nodes_of}
use Rattle.ipcz_world.proofs.code.Beginning.{nodes_left}
use Rattle.ipcz_world.proofs.nodes.Nodes.new.Given as goal

-- the nodes so far, and those that are left, are all of them
abbrev pub invariant-loop-number : goal.invariant-loop-number
invariant-loop-number l = nodes_of l.states.items ++ nodes_left l.fn.count l.number ≡ nodes_left l.fn.count 0
