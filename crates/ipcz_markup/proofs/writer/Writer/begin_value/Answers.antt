use Rattle.ipcz_markup.proofs.Adding.{adds_three, stands_after}
use Rattle.ipcz_markup.specs.Markup.{InTag, InValue, Attribute}
use Rattle.ipcz_markup.proofs.writer.Writer.begin_value.Goals as goal

pub returns-clause-begins : goal.returns-clause-begins
returns-clause-begins c rows s old =
    let named = rw c.name.ensures at c.add-2.ensures in
    stands_after _ _ _ rows rows InTag InValue s s (adds_three _ _ _ _ _ _ _ c.add.ensures named c.add-3.ensures)
    (λ l m. Attribute c.args.key m) old
