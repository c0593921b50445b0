use Rattle.ipcz_markup.proofs.Adding.{stands_after}
use Rattle.ipcz_markup.specs.Markup.{InTag, InText, TagEnd}
use Rattle.ipcz_markup.proofs.writer.Writer.enter.Goals as goal

pub returns-clause-enters : goal.returns-clause-enters
returns-clause-enters c rows s old = stands_after _ _ _ rows rows InTag InText s s c.add.ensures (λ l m. TagEnd m) old
