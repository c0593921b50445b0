use Rattle.std.proofs.Common.{◌∷◌}
use Rattle.ipcz_markup.proofs.Adding.{adds_three, stands_after}
use Rattle.ipcz_markup.specs.Markup.{InText, Close}
use Rattle.ipcz_markup.proofs.writer.Writer.close.Goals as goal

pub returns-clause-closes : goal.returns-clause-closes
returns-clause-closes c rows s old =
    let named = rw c.name.ensures at c.add-2.ensures in
    stands_after _ _ _ rows rows InText InText (c.args.tag ∷ s) s (adds_three _ _ _ _ _ _ _ c.add.ensures named c.add-3.ensures)
    (λ l m. Close m) old
