use Rattle.std.proofs.Common.{◌≡◌, ◌≤◌, replicate, vec_capacity}
use Rattle.ipcz_world.proofs.link_words.LinkWords.new.Given as goal

-- so many words are laid out, and there is room for all
abbrev pub invariant-loop-pair : goal.invariant-loop-pair
invariant-loop-pair l = record {
  items : l.bits.items ≡ replicate l._pair 3;
  room : l.words ≤ vec_capacity l.bits;
}
