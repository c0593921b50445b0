use Rattle.std.proofs.Common.{sym}
use Rattle.ipcz_cell.proofs.Inboxing.{set_may}
use Rattle.ipcz_cell.proofs.inbox.set_here.Goals as goal

pub set_step-requires-clause-may : goal.set_step-requires-clause-may
set_step-requires-clause-may g c =
    set_may g.F.FabricName.table _ _ _ c.args.node c.args.to c.bit_of.result _ c.requires.picked c.requires.whole c.requires.node.0 c.requires.to c.bit_of.ensures (sym c.inbox_place.ensures.word)
