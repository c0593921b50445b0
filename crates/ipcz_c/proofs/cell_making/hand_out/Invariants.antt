use Rattle.std.proofs.Common.{◌≡◌, ◌+◌, ◌++◌, map, length, take}
use Rattle.std.specs.VecDeque.{deque_len}
use Rattle.ipcz_c.specs.CellCalls.{cells_of, holds_each}
use Rattle.ipcz_c.proofs.cell_making.hand_out.Given as goal

-- the handles so far have their cells, and the other cells are left
abbrev pub invariant-loop-at : goal.invariant-loop-at
invariant-loop-at g l = record {
  held : cells_of (take l.at l.handles) ++ holds_each g.F.FabricName.table (map (λ m. m.value) l.members.items)
      ≡ holds_each g.F.FabricName.table (map (λ m. m.value) l.fn.members.items);
  each : length l.members.items + l.at ≡ length l.handles;
  many : deque_len l.members ≡ length l.members.items;
  same : length l.handles ≡ length l.fn.handles;
}
