use Rattle.std.proofs.Common.{◌≡◌, ◌<◌}
use Rattle.ipcz_rule.specs.Batches.{BatchMine}
use Rattle.ipcz_cell.specs.Seats.{mine_of, HasNoSlots}
use Rattle.ipcz_cell.proofs.Looking.{HasLooked, IsBehind}
use Rattle.ipcz_cell.proofs.slots.find_slot.Given as goal

-- the seat has no slot, and has looked at each from the first on; the next is this one
abbrev pub invariant-loop-tried : goal.invariant-loop-tried
invariant-loop-tried g l = record {
  own : l.seat.table_id ≡ g.F.FabricName.table.id;
  id : l.seat.id ≡ l.initial.seat.id;
  me : ◌≡◌ {A = BatchMine} (mine_of l.seat.me) (mine_of l.initial.seat.me);
  inside : l.slot < g.F.FabricName.table.slots;
  none : HasNoSlots l.seat.me.0;
  looked : HasLooked g.F.FabricName.table.slots l.fn.first l.tried l.initial.seat.me.0.looked l.seat.me.0.looked;
  behind : IsBehind g.F.FabricName.table.slots l.fn.first l.tried l.slot;
}
