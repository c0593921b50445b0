use Rattle.std.proofs.Common.{◌∷◌}
use Rattle.ipcz_markup.proofs.Adding.{adds_two, stands_after}
use Rattle.ipcz_markup.specs.Markup.{InTag, InText, Element}
use Rattle.ipcz_markup.proofs.writer.Writer.open.Goals as goal

pub returns-clause-opens : goal.returns-clause-opens
returns-clause-opens c rows u s old =
    let named = rw c.name.ensures at c.add-2.ensures in
    stands_after _ _ _ rows rows InText InTag (u ∷ s) (c.args.tag ∷ u ∷ s) (adds_two _ _ _ _ _ c.add.ensures named)
    (λ l m. Element c.args.tag c.requires m) old
