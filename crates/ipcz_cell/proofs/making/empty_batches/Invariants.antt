use Rattle.std.proofs.Common.{◌≡◌, ◌≤◌, [], vec_len, vec_capacity}
use Rattle.std.specs.Prelude.{replicate}
use Rattle.ipcz_cell.proofs.making.empty_batches.Given as goal

-- the batches so far are empty
abbrev pub invariant-loop-slot : goal.invariant-loop-slot
invariant-loop-slot l = record {
  items : l.batches.items ≡ replicate l._slot [];
  len : vec_len l.batches ≡ l._slot;
  room : l.count ≤ vec_capacity l.batches;
}
