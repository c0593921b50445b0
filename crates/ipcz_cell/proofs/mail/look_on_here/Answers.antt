use Rattle.ipcz_cell.proofs.Mailing.{look_on_may}
use Rattle.ipcz_cell.proofs.mail.look_on_here.Goals as goal

pub touch-requires-clause-may : goal.touch-requires-clause-may
touch-requires-clause-may g c = look_on_may g.F.FabricName.table _ _ _ c.args.from _ c.requires.picked c.requires.whole c.requires.from c.requires.idle c.requires.left
