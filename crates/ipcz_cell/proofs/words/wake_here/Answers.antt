use Rattle.ipcz_router.specs.declared.act.RouterAct.TheVariants as router_acts
use Rattle.ipcz_cell.proofs.Slotting.{router_slotted}
use Rattle.ipcz_cell.proofs.Wording.{wake_may}
use Rattle.ipcz_cell.proofs.words.wake_here.Goals as goal

pub keep_link-requires-clause-slotted : goal.keep_link-requires-clause-slotted
keep_link-requires-clause-slotted g c = router_slotted g.F.FabricName.table _ c.args.i c.args.serial c.args.side router_acts.Wake _ c.requires.whole c.requires.can

pub keep_link-requires-clause-may : goal.keep_link-requires-clause-may
keep_link-requires-clause-may g c = wake_may g.F.FabricName.table _ c.args.i c.args.serial _ c.args.side _ _ c.requires.picked c.requires.whole c.requires.can c.requires.inside c.wake_mask-kept.ensures
