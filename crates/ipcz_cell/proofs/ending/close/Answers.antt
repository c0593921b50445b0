use Rattle.std.proofs.Common.{sym, subst}
use Rattle.std.specs.Slots.{slots_items}
use Rattle.ipcz_rule.specs.End.{IsShown}
use Rattle.ipcz_cell.proofs.BoxesRead.{read_at}
use Rattle.ipcz_cell.proofs.Unfolding.{whole_sized, whole_table, whole_comes_back}
use Rattle.ipcz_cell.proofs.ending.close.Goals as goal

pub of_parts-requires-clause-words : goal.of_parts-requires-clause-words
of_parts-requires-clause-words c =
    let b = c.read_words-bits.ensures in
    let last = whole_sized _ _ _ _ _ _ _ _ _ _ c.requires.size.0 c.requires.size.1 c.requires.size.2 c.requires.size.3 c.close_with-closed.ensures.values.2 in
    whole_table c.args.nodes c.args.words _ _ _ _ last c.requires.all _ b.many b.read c.word-claimed.result (sym (read_at (slots_items c.close_with-closed.result.words) c.args.words _ c.word-claimed.ensures)) c.requires.laid.limits

pub of_parts-requires-clause-lawful : goal.of_parts-requires-clause-lawful
of_parts-requires-clause-lawful c =
    let b = c.read_words-bits.ensures in
    let last = whole_sized _ _ _ _ _ _ _ _ _ _ c.requires.size.0 c.requires.size.1 c.requires.size.2 c.requires.size.3 c.close_with-closed.ensures.values.2 in
    (whole_comes_back c.args.nodes c.args.words _ _ _ _ last c.requires.all _ b.many b.read c.word-claimed.result
    (sym (read_at (slots_items c.close_with-closed.result.words) c.args.words _ c.word-claimed.ensures)) _ c.requires.states _ c.requires.hands _ c.read_boxes-boxes.ensures.many c.read_boxes-boxes.ensures.read).0

pub returns : goal.returns
returns c =
    let b = c.read_words-bits.ensures in
    let last = whole_sized _ _ _ _ _ _ _ _ _ _ c.requires.size.0 c.requires.size.1 c.requires.size.2 c.requires.size.3 c.close_with-closed.ensures.values.2 in
    subst (IsShown c.args.nodes c.args.words c.args.seat.me.0.view.parts) (sym c.of_parts.ensures)
    (whole_comes_back c.args.nodes c.args.words _ _ _ _ last c.requires.all _ b.many b.read c.word-claimed.result
    (sym (read_at (slots_items c.close_with-closed.result.words) c.args.words _ c.word-claimed.ensures)) _ c.requires.states _ c.requires.hands _ c.read_boxes-boxes.ensures.many c.read_boxes-boxes.ensures.read).1
