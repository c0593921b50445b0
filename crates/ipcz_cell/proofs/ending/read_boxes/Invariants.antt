use Rattle.std.proofs.Common.{◌≡◌, ◌≤◌, ◌<◌, ◌*◌, ℕ, true, false, slice_index_or, vec_len, vec_capacity}
use Rattle.std.specs.Slots.{slots_items, slots_filled, slots_len}
use Rattle.ipcz_cell.proofs.BoxesRead.{AreRead}
use Rattle.ipcz_cell.proofs.ending.read_boxes.Given as goal

-- the mailboxes so far are read, and their slots are taken
abbrev pub invariant-loop-k : goal.invariant-loop-k
invariant-loop-k l = record {
  words : l.closed.words ≡ l.fn.closed.words;
  items : slots_items l.closed.slots ≡ slots_items l.fn.closed.slots;
  length : slots_len l.closed.slots ≡ slots_len l.fn.closed.slots;
  taken : (i : ℕ) → i < l.k → slice_index_or (slots_filled l.closed.slots) i false ≡ false;
  there : (i : ℕ) → l.k ≤ i → i < l.nodes * l.nodes → slice_index_or (slots_filled l.closed.slots) i false ≡ true;
  hands : vec_len l.hands ≡ l.nodes;
  read : AreRead l.nodes l.first (slots_items l.fn.closed.words) (slots_items l.fn.closed.slots) l.fn.hands.items l.hands.items l.k l.boxes.items;
  len : vec_len l.boxes ≡ l.k;
  room : l.nodes * l.nodes ≤ vec_capacity l.boxes;
}
