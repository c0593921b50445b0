use Rattle.std.proofs.Common.{◌≡◌, ◌≤◌, ◌-◌, [], vec_len, vec_capacity}
use Rattle.std.specs.VecDeque.{deque_len}
use Rattle.ipcz_cell.proofs.Unions.{IsUnion}
use Rattle.ipcz_cell.proofs.ending.join_all.Given as goal

-- the cells so far are taken apart, and their seats are one
abbrev pub invariant-loop-node : goal.invariant-loop-node
invariant-loop-node g l = record {
  own : l.seat.table_id ≡ g.F.FabricName.table.id;
  slots : l.seat.me.1 ≡ [];
  union : IsUnion l.fn.cells.items l.cells.items l.seat.me.0.view l.states.items l.hands.items;
  left : deque_len l.cells ≡ g.F.FabricName.table.count - l._node;
  states_len : vec_len l.states ≡ l._node;
  states_room : g.F.FabricName.table.count ≤ vec_capacity l.states;
  hands_len : vec_len l.hands ≡ l._node;
  hands_room : g.F.FabricName.table.count ≤ vec_capacity l.hands;
}
