use Rattle.std.proofs.Common.{◌≡◌, ◌++◌, map, length}
use Rattle.std.specs.VecDeque.{deque_len}
use Rattle.ipcz_c.proofs.cell_making.boxed.Given as goal

abbrev pub decreases-loop-cell : goal.decreases-loop-cell
decreases-loop-cell g l = deque_len l.cells

-- the cells that are in boxes, and those that are left
abbrev pub invariant-loop-cell : goal.invariant-loop-cell
invariant-loop-cell g l = record {
  all : map (λ m. m.value) l.members.items ++ l.cells.items ≡ l.fn.cells.items;
  left : deque_len l.cells ≡ length l.cells.items;
  many : deque_len l.members ≡ length l.members.items;
}
