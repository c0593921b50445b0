use Rattle.std.proofs.Common.{sym}
use Rattle.ipcz_cell.proofs.Inboxing.{peek_may}
use Rattle.ipcz_cell.proofs.inbox.peek_here.Goals as goal

pub load_step-requires-clause-may : goal.load_step-requires-clause-may
load_step-requires-clause-may g c = peek_may g.F.FabricName.table _ _ _ c.args.node c.args.to _ c.requires.picked c.requires.whole c.requires.node c.requires.to (sym c.inbox_place.ensures.word)
