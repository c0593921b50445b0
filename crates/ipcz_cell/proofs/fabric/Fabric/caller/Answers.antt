use Rattle.std.proofs.Common.{arith, ap}
use Rattle.atomic_table.specs.Seated.{TableId}
use Rattle.ipcz_rule.proofs.LastsSeats.{seats_last}
use Rattle.ipcz_cell.proofs.fabric.Fabric.caller.Goals as goal

pub load_new_seat-seat-requires : goal.load_new_seat-seat-requires
load_new_seat-seat-requires g c =
    let f = c.self.invariant in
    let wide = ap (λ (z : TableId). z.words) f.0 in
    let laid = f.5.words in
    (omega (arith, wide, laid), λ s l deep small. let h = seats_last.3 _ _ _ _ _ _ s l deep small in (h.0, h.1.0, h.2))
