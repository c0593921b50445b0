use Rattle.std.proofs.Common.{◌≡◌, ◌≤◌, ◌<◌, ℕ, slice_index, vec_len, vec_capacity}
use Rattle.std.specs.Slots.{slots_items}
use Rattle.ipcz_cell.proofs.ending.read_words.Given as goal

-- the words so far are read
abbrev pub invariant-loop-i : goal.invariant-loop-i
invariant-loop-i l = record {
  read : (j : ℕ) → j < l.i → slice_index l.bits.items j ≡ slice_index (slots_items l.closed.words) j;
  len : vec_len l.bits ≡ l.i;
  room : l.words ≤ vec_capacity l.bits;
}
