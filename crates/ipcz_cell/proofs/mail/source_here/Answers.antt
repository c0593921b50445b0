use Rattle.ipcz_cell.proofs.Slotting.{source_slotted}
use Rattle.ipcz_cell.proofs.Mailing.{source_may}
use Rattle.ipcz_cell.proofs.mail.source_here.Goals as goal

pub load_link-requires-clause-slotted : goal.load_link-requires-clause-slotted
load_link-requires-clause-slotted g c =
    source_slotted g.F.FabricName.table _ c.args.from c.args.old _ c.requires.message.0 c.requires.whole c.requires.hand c.requires.message.1 c.requires.message.2

pub load_link-requires-clause-may : goal.load_link-requires-clause-may
load_link-requires-clause-may g c =
    source_may g.F.FabricName.table _ c.args.old _ c.args.from _ c.requires.picked c.requires.whole c.requires.hand c.requires.message.0 c.requires.message.1 c.requires.message.2 c.requires.inside
