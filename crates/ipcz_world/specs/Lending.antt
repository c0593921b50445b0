-- What becomes of the nodes when one of them was lent.
use Rattle.std.specs.Prelude.{ℕ}
use Rattle.std.specs.Borrow.{Lends, MutBor, Fml}
use Rattle.ipcz_base.specs.Indexed.{put_place}
use Rattle.ipcz_node.specs.Node.{bare_node}
use Rattle.ipcz_node.specs.RoomyNodes.{RoomyNode}
use Rattle.ipcz_node.specs.contracts.state.NodeState.{the_row as node_row}
use Rattle.ipcz_world.specs.RoomyWorlds.{NodesValue, no_room}
use Rattle.ipcz_world.specs.contracts.nodes.Nodes.{the_row}

-- the node of the number becomes what is written through the loan, and nothing else changes
abbrev pub LendsNode : MutBor NodesValue → ℕ → MutBor RoomyNode → Fml
LendsNode lender n loan = Lends the_row node_row lender loan (λ k. record {
  nodes = put_place (bare_node 0 0) lender.now.nodes n k.node;
  rooms = put_place no_room lender.now.rooms n k.room;
})
