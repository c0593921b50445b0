use Rattle.std.proofs.Common.{arith, ap, sym, ◌∙◌}
use Rattle.atomic_table.specs.Seated.{TableId}
use Rattle.ipcz_rule.proofs.LastsSeats.{seats_last}
use Rattle.ipcz_cell.proofs.callers.give_back.Goals as goal

pub split_seat-caller-requires : goal.split_seat-caller-requires
split_seat-caller-requires g c =
    let f = c.fabric.invariant in
    let wide = ap (λ (z : TableId). z.words) f.0 in
    let laid = f.5.words in
    (c.requires.own ∙ sym f.0, omega (arith, wide, laid), λ s l at. (seats_last.2 _ _ _ _ _ _ _ c.requires.whole s l at).0)
