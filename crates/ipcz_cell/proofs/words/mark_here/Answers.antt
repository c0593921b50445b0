use Rattle.ipcz_router.specs.declared.act.RouterAct.TheVariants as router_acts
use Rattle.ipcz_cell.proofs.Slotting.{router_slotted}
use Rattle.ipcz_cell.proofs.Wording.{mark_may}
use Rattle.ipcz_cell.proofs.words.mark_here.Goals as goal

pub set_link-requires-clause-slotted : goal.set_link-requires-clause-slotted
set_link-requires-clause-slotted g c = router_slotted g.F.FabricName.table _ c.args.i c.args.serial c.args.side router_acts.Mark _ c.requires.whole c.requires.can

pub set_link-requires-clause-may : goal.set_link-requires-clause-may
set_link-requires-clause-may g c = mark_may g.F.FabricName.table _ c.args.i c.args.serial _ c.args.side _ _ c.requires.picked c.requires.whole c.requires.can c.requires.inside c.stable_bit-bit.ensures
