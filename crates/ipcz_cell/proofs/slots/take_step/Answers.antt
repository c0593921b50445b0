use Rattle.std.proofs.Common.{ap, sym, ◌∙◌, arith}
use Rattle.atomic_table.specs.Seated.{TableId}
use Rattle.ipcz_cell.proofs.Slotting.{take_may}
use Rattle.ipcz_cell.proofs.slots.take_step.Goals as goal

pub compare_exchange-found-requires : goal.compare_exchange-found-requires
compare_exchange-found-requires g c =
    let f = c.fabric.invariant in
    let wide = ap (λ (z : TableId). z.words) f.0 in
    let inside = c.let_go_word-word.ensures.inside in (
      c.requires.own ∙ sym f.0,
      omega (arith, wide, inside),
      take_may _ _ _ _ _ _ g.F.FabricName.table _ _ c.args.slot f.1 f.2 f.6 f.7 (ap (λ (z : TableId). z.slots) f.0) c.let_go_word-word.ensures.word c.requires.reuses c.requires.inside,
    )
