use Rattle.std.proofs.Common.{ap, sym, ◌∙◌, arith}
use Rattle.atomic_table.specs.Seated.{TableId}
use Rattle.ipcz_cell.proofs.Slotting.{empty_may}
use Rattle.ipcz_cell.proofs.slots.empty_step.Goals as goal

pub store-requires : goal.store-requires
store-requires g c =
    let f = c.fabric.invariant in
    let wide = ap (λ (z : TableId). z.words) f.0 in
    let words = f.5.words in
    let inside = c.requires.inside in (
      c.requires.own ∙ sym f.0,
      omega (arith, wide, words, inside),
      empty_may _ _ _ _ _ g.F.FabricName.table _ _ c.args.slot f.1 f.2 f.6 f.7 (ap (λ (z : TableId). z.slots) f.0) c.requires.reuses c.requires.inside c.requires.taken,
    )
