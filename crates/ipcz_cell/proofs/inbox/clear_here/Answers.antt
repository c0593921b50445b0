use Rattle.std.proofs.Common.{sym}
use Rattle.ipcz_cell.proofs.Mailing.{has_none}
use Rattle.ipcz_cell.proofs.Inboxing.{clear_may}
use Rattle.ipcz_cell.proofs.inbox.clear_here.Goals as goal

pub keep_step-requires-clause-may : goal.keep_step-requires-clause-may
keep_step-requires-clause-may g c =
    clear_may g.F.FabricName.table _ _ _ c.args.node c.args.from c.all_but.result _ c.requires.picked c.requires.whole c.requires.node.0 c.requires.hand (has_none _ c.requires.spent) c.all_but.ensures.others (sym c.inbox_place.ensures.word)
