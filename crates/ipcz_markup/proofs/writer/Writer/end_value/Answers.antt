use Rattle.ipcz_markup.proofs.Adding.{stands_after}
use Rattle.ipcz_markup.specs.Markup.{InTag, InValue, ValueEnd}
use Rattle.ipcz_markup.proofs.writer.Writer.end_value.Goals as goal

pub returns-clause-ends : goal.returns-clause-ends
returns-clause-ends c rows s old = stands_after _ _ _ rows rows InValue InTag s s c.add.ensures (λ l m. ValueEnd m) old
