use Rattle.std.proofs.Common.{◌++◌, ◌∷◌, [], ◌∙◌, arith}
use Rattle.std.proofs.lemmas.List.{replicate_more}
use Rattle.ipcz_cell.proofs.making.empty_batches.Goals as goal

pub loop-slot-preserved : goal.loop-slot-preserved
loop-slot-preserved c =
    let l = c.loop-slot.invariant in record {
      items = c.push_reserved.ensures.items ∙ ((λ j. l.items j ++ c.new.ensures j ∷ []) ∙ replicate_more c.loop-slot._slot []);
      len = let len = l.len in omega (arith, len, c.push_reserved.ensures.len);
      room = let room = l.room in omega (arith, room, c.push_reserved.ensures.capacity);
    }
