use Rattle.std.proofs.Common.{arith, ap, sym, ◌∙◌}
use Rattle.atomic_table.specs.Seated.{TableId}
use Rattle.atomic_table.proofs.Lists.{set_else}
use Rattle.ipcz_rule.proofs.LastsSeats.{seats_apart}
use Rattle.ipcz_cell.proofs.twins.join_twins.Goals as goal

pub join_seat-requires : goal.join_seat-requires
join_seat-requires g c =
    let f = c.fabric.invariant in
    let wide = ap (λ (z : TableId). z.words) f.0 in
    let laid = f.5.words in (
      c.requires.own.0 ∙ sym f.0,
      c.requires.own.1 ∙ sym f.0,
      c.requires.slots,
      omega (arith, wide, laid),
      (λ s rules at apart there. absurd (apart (sym (seats_apart _ _ _ _ _ _ s rules _ _ _ _ at (sym (set_else s.views _ _ _ apart) ∙ there)
          c.requires.parts.0 c.requires.parts.1 c.requires.twins)))),
    )
