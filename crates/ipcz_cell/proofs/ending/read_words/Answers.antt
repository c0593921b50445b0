use Rattle.std.proofs.Common.{◌≡◌, length, arith}
use Rattle.ipcz_cell.proofs.BoxesRead.{words_more}
use Rattle.ipcz_cell.proofs.ending.read_words.Goals as goal

pub loop-i-preserved : goal.loop-i-preserved
loop-i-preserved c =
    let l = c.loop-i.invariant in
    let many : length c.loop-i.bits.items ≡ c.loop-i.i = let len = l.len in omega (arith, len, c.loop-i.bits.ok) in
    record {
      read = words_more _ _ _ c.loop-i.i _ many l.read c.word.ensures c.push_reserved.ensures.items;
      len = let len = l.len in omega (arith, len, c.push_reserved.ensures.len);
      room = let room = l.room in omega (arith, room, c.push_reserved.ensures.capacity);
    }
