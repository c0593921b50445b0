use Rattle.std.proofs.Common.{◌≡◌, ◌<◌, ◌+◌, ◌*◌, ◌%◌, ◌++◌, ◌∷◌, [], List, length, slice_set, arith, ap, sym, ◌∙◌}
use Rattle.std.specs.Prelude.{Option}
use Rattle.std.specs.Slots.{slots_items}
use Rattle.atomic_table.proofs.Lists.{at_index}
use lib.ListN.{get_elem?}
use Rattle.ipcz_base.specs.declared.message.Message.{Message}
use Rattle.ipcz_world.specs.declared.mail.Mail.{Mail}
use Rattle.ipcz_rule.specs.Batches.{Batch}
use Rattle.ipcz_cell.proofs.BoxesRead.{boxes_more, column_below, taken_more, there_more}
use Rattle.ipcz_cell.proofs.ending.read_boxes.Goals as goal

pub loop-k-preserved : goal.loop-k-preserved
loop-k-preserved c =
    let l = c.loop-k.invariant in
    let n = c.args.nodes in
    let k = c.loop-k.k in
    let hands = c.loop-k.hands.items in
    let o = c.take-slot.ensures.others in
    let below : k < n * n = c.loop-k-test.true in
    let inside : k % n < length hands = let col = column_below n k below in let many = l.hands in omega (arith, col, many, c.loop-k.hands.ok) in
    let boxes_many : length c.loop-k.boxes.items ≡ k = let len = l.len in omega (arith, len, c.loop-k.boxes.ok) in
    record {
      words = o.3 ∙ l.words;
      items = o.0 ∙ l.items;
      length = o.2 ∙ l.length;
      taken = taken_more _ _ k o.1 l.taken;
      there = there_more _ _ k (n * n) o.1 l.there;
      hands = l.hands;
      read = boxes_more n c.args.first _ _ _ hands _ k _ _ c.word-word.result c.take-slot.result c.index_mut.result.now below l.read boxes_many
          (ap (λ ws. get_elem? (slots_items ws) (c.args.first + k)) (sym l.words) ∙ c.word-word.ensures)
          (ap (λ (xs : List Batch). get_elem? xs k) (sym l.items) ∙ c.take-slot.ensures.value)
          (at_index hands (k % n) c.index_mut.result.now inside c.index_mut.ensures.value)
          inside
          (ap (λ (h : Option Message). slice_set hands (k % n) h) c.read_box-mail.ensures.hand)
          (c.push_reserved.ensures.items ∙ ap (λ (m : Mail). c.loop-k.boxes.items ++ m ∷ []) c.read_box-mail.ensures.mail);
      len = let len = l.len in omega (arith, len, c.push_reserved.ensures.len);
      room = let room = l.room in omega (arith, room, c.push_reserved.ensures.capacity);
    }
