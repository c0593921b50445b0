use Rattle.std.proofs.Common.{arith, ap, sym, ◌∙◌}
use Rattle.atomic_table.specs.Seated.{TableId}
use Rattle.ipcz_rule.proofs.LastsSeats.{seats_last}
use Rattle.ipcz_cell.specs.Callers.{caller_own}
use Rattle.ipcz_cell.proofs.callers.lend.Goals as goal

pub into_seat-requires : goal.into_seat-requires
into_seat-requires g c = (caller_own c.requires.caller.0, c.requires.caller.1)

pub join_seat-requires : goal.join_seat-requires
join_seat-requires g c =
    let f = c.fabric.invariant in
    let wide = ap (λ (z : TableId). z.words) f.0 in
    let laid = f.5.words in
    let seat = c.into_seat.ensures in
    (c.requires.own.0 ∙ sym f.0, seat.0 ∙ (c.requires.own.1 ∙ sym f.0), seat.3, omega (arith, wide, laid), λ s l at apart there. (seats_last.1 _ _ _ _ _ _ _ _ s l at apart there).0)
