use Rattle.std.proofs.Common.{◌≡◌, ◌-◌, length, vec_len}
use Rattle.std.specs.VecDeque.{deque_len}
use Rattle.ipcz_fabric.specs.Sorting.{AreSorted, standing}
use Rattle.ipcz_fabric.proofs.hub.unlock_all.Given as goal

-- so many cells are at their places
abbrev pub invariant-loop-done : goal.invariant-loop-done
invariant-loop-done g l = record {
  left : deque_len l.locked ≡ l.count - l._done;
  many : vec_len l.places ≡ g.F.FabricName.table.count;
  sorted : AreSorted 0 l.places.items;
  done : length (standing l.places.items) ≡ l._done;
  all : l.count ≡ g.F.FabricName.table.count;
}
