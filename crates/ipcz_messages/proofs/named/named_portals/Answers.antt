use Rattle.std.proofs.Common.{arith}
use Rattle.ipcz_messages.proofs.Covering.{all_more, calls_kept}
use Rattle.ipcz_messages.proofs.named.named_portals.Goals as goal

pub loop-line-preserved : goal.loop-line-preserved
loop-line-preserved c = (
  omega (arith, c.note_closed.ensures.few, c.in_ok-note_called.ensures.few (c.in_ok-note_opened.ensures.few c.loop-line.invariant.0)),
  c.note_closed.ensures.told (c.in_ok-note_called.ensures.told (c.in_ok-note_opened.ensures.told c.loop-line.invariant.1)),
  c.note_closed.ensures.placed (c.in_ok-note_called.ensures.placed (c.in_ok-note_opened.ensures.placed c.loop-line.invariant.2)),
  c.note_closed.ensures.once (c.in_ok-note_called.ensures.once (c.in_ok-note_opened.ensures.once c.loop-line.invariant.3)),
  c.note_closed.ensures.closes (c.in_ok-note_called.ensures.once (c.in_ok-note_opened.ensures.once c.loop-line.invariant.3))
      (c.in_ok-note_called.ensures.closes (calls_kept c.args.lines.now c.loop-line.line c.loop-line.named.items c.note_opened.new.named.items
      c.in_ok-note_opened.ensures.kept c.loop-line.invariant.5.called) (c.in_ok-note_opened.ensures.closes c.loop-line.invariant.4)),
  all_more c.args.lines.now c.loop-line.line c.loop-line.named.items c.note_opened.new.named.items c.note_called.new.named.items
      c.note_closed.new.named.items c.in_ok-note_opened.ensures.kept c.in_ok-note_called.ensures.kept c.note_closed.ensures.kept
      c.in_ok-note_opened.ensures.all c.in_ok-note_called.ensures.all c.loop-line.invariant.5,
)
