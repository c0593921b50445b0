use Rattle.std.proofs.Common.{◌∷◌}
use Rattle.ipcz_markup.proofs.Adding.{stands_after}
use Rattle.ipcz_markup.specs.Markup.{InTag, InText, Empty}
use Rattle.ipcz_markup.proofs.writer.Writer.leave.Goals as goal

pub returns-clause-leaves : goal.returns-clause-leaves
returns-clause-leaves c rows t s old = stands_after _ _ _ rows rows InTag InText (t ∷ s) s c.add.ensures (λ l m. Empty m) old
