use Rattle.std.proofs.Common.{arith, ap, sym, ◌∙◌}
use Rattle.atomic_table.specs.Seated.{TableId}
use Rattle.ipcz_rule.proofs.LastsSeats.{seats_last}
use Rattle.ipcz_cell.proofs.ending.join.Goals as goal

pub join_seat-requires : goal.join_seat-requires
join_seat-requires g c =
    let f = c.fabric.invariant in
    let wide = ap (λ (z : TableId). z.words) f.0 in
    let laid = f.5.words in
    (c.requires.own.0 ∙ sym f.0, c.requires.own.1 ∙ sym f.0, c.requires.slots, omega (arith, wide, laid), λ s l at apart there. (seats_last.1 _ _ _ _ _ _ _ _ s l at apart there).0)
