use Rattle.ipcz_router.specs.declared.act.RouterAct.TheVariants as router_acts
use Rattle.ipcz_cell.proofs.Slotting.{router_slotted}
use Rattle.ipcz_cell.proofs.Wording.{lock_may}
use Rattle.ipcz_cell.proofs.words.lock_here.Goals as goal

pub exchange_link-requires-clause-slotted : goal.exchange_link-requires-clause-slotted
exchange_link-requires-clause-slotted g c = router_slotted g.F.FabricName.table _ c.args.i c.args.serial c.args.side router_acts.Lock _ c.requires.whole c.requires.can

pub exchange_link-requires-clause-may : goal.exchange_link-requires-clause-may
exchange_link-requires-clause-may g c = lock_may g.F.FabricName.table _ c.args.i c.args.serial c.args.found c.args.new c.args.side c.args.source _ _ c.requires.picked c.requires.whole c.requires.can c.requires.named c.requires.inside c.requires.new
