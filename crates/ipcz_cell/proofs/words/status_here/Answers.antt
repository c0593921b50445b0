use Rattle.ipcz_router.specs.declared.act.RouterAct.TheVariants as router_acts
use Rattle.ipcz_cell.proofs.Slotting.{router_slotted}
use Rattle.ipcz_cell.proofs.Wording.{status_may}
use Rattle.ipcz_cell.proofs.words.status_here.Goals as goal

pub load_link-requires-clause-slotted : goal.load_link-requires-clause-slotted
load_link-requires-clause-slotted g c = router_slotted g.F.FabricName.table _ c.args.i c.args.serial c.args.side router_acts.Lock _ c.requires.whole c.requires.can

pub load_link-requires-clause-may : goal.load_link-requires-clause-may
load_link-requires-clause-may g c = status_may g.F.FabricName.table _ c.args.i c.args.serial c.args.side c.args.source _ _ c.requires.picked c.requires.whole c.requires.can c.requires.named c.requires.inside
