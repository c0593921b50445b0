use Rattle.ipcz_cell.proofs.Mailing.{hand_on_may}
use Rattle.ipcz_cell.proofs.mail.hand_on_here.Goals as goal

pub touch-requires-clause-may : goal.touch-requires-clause-may
touch-requires-clause-may g c =
    let m = c.requires.message in
    hand_on_may g.F.FabricName.table _ _ _ c.args.from c.args.source _ c.requires.picked c.requires.whole c.requires.hand m.0 m.1 m.2 m.3 c.requires.left
