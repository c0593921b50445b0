use Rattle.std.proofs.Common.{None, ◌≡◌, ◌≤◌, ◌-◌, [], map, vec_len, vec_capacity}
use Rattle.std.specs.VecDeque.{deque_len}
use Rattle.ipcz_world.specs.World.{numbers_from}
use Rattle.ipcz_rule.specs.Start.{opening_parts}
use Rattle.ipcz_cell.specs.Making.{AreFirst, opening_body}
use Rattle.ipcz_cell.proofs.making.deal_all.Given as goal
use Rattle.ipcz_cell.specs.Seats.{mine_of}

-- the nodes so far have their cells, and the seat has the parts of the others
abbrev pub invariant-loop-node : goal.invariant-loop-node
invariant-loop-node g l = record {
  own : l.seat.table_id ≡ g.F.FabricName.table.id;
  me : (mine_of l.seat.me) ≡ (record { parts = opening_parts g.F.FabricName.table.count l.node (g.F.FabricName.table.count - l.node); seen = []; announced = None; caller = None }, []);
  left : l.bodies.items ≡ map (opening_body g.F.FabricName.table.count) (numbers_from l.node (g.F.FabricName.table.count - l.node));
  cells : AreFirst g.F.FabricName.table.count l.node l.cells.items;
  many : deque_len l.bodies ≡ g.F.FabricName.table.count - l.node;
  len : vec_len l.cells ≡ l.node;
  room : g.F.FabricName.table.count ≤ vec_capacity l.cells;
}
