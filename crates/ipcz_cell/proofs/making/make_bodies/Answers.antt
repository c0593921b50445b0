use Rattle.ipcz_cell.proofs.FirstCells.{bodies-more}
use Rattle.ipcz_cell.proofs.making.make_bodies.Goals as goal

pub loop-number-preserved : goal.loop-number-preserved
loop-number-preserved c =
    bodies-more c.args.count c.loop-number.number c.loop-number.bodies.items _ _ c.loop-number.invariant
    (λ j. record { node = c.in_ok-state.ensures.ok j; probed = c.in-Ok.ensures j; held = c.in-Ok-new.ensures j }) c.in-Ok-push.ensures.items
