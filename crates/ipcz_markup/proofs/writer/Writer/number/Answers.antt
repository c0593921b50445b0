use Rattle.std.proofs.Common.{◌∷◌, arith}
use Rattle.ipcz_markup.proofs.Adding.{decimal_length}
use Rattle.ipcz_markup.proofs.Adding.{stands_after}
use Rattle.ipcz_markup.specs.Markup.{InText, InValue, Number, ValueNumber}
use Rattle.ipcz_markup.proofs.writer.Writer.number.Goals as goal

pub returns-clause-keeps : goal.returns-clause-keeps
returns-clause-keeps c rows u s old = stands_after _ _ _ rows rows InText InText (u ∷ s) (u ∷ s)
    c.add_number.ensures (λ l m. Number c.args.n m) old

pub returns-clause-keeps_value : goal.returns-clause-keeps_value
returns-clause-keeps_value c rows s old =
    stands_after _ _ _ rows rows InValue InValue s s c.add_number.ensures (λ l m. ValueNumber c.args.n m) old

pub returns-clause-few : goal.returns-clause-few
returns-clause-few c = omega (arith, c.add_number.ensures.size, decimal_length c.args.n c.ranges.n.fits)
