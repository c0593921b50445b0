use Rattle.std.proofs.Common.{arith, ap, sym, ◌∙◌}
use Rattle.atomic_table.specs.Seated.{TableId}
use Rattle.ipcz_rule.proofs.LastsSeats.{seats_last}
use Rattle.ipcz_cell.proofs.making.deal.Goals as goal

pub split_seat-dealt-requires : goal.split_seat-dealt-requires
split_seat-dealt-requires g c =
    let i = c.fabric.invariant in
    let same = ap (λ (z : TableId). z.words) i.0 in
    let wide = i.5.words in
    (c.requires.own ∙ sym i.0, omega (arith, same, wide), λ s l at. (seats_last.0 _ _ _ _ _ _ g.F.FabricName.table.count c.args.node c.requires.node c.requires.parts s l at).0)
