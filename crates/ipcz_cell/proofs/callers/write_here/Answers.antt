use Rattle.ipcz_cell.proofs.Noting.{note_may}
use Rattle.ipcz_cell.proofs.callers.write_here.Goals as goal

pub touch-requires-clause-may : goal.touch-requires-clause-may
touch-requires-clause-may g c = note_may g.F.FabricName.table _ _ _ _ _ c.requires.picked c.requires.whole c.requires.caller
