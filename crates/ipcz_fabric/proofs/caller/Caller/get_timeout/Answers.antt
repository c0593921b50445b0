use Rattle.ipcz_fabric.proofs.Portaling.{are_there}
use Rattle.ipcz_fabric.proofs.Stops.{missing_by}
use Rattle.ipcz_fabric.proofs.Taking.{got_by}
use Rattle.ipcz_fabric.proofs.caller.Caller.get_timeout.Goals as goal

pub returns-in-Ok-clause-got : goal.returns-in-Ok-clause-got
returns-in-Ok-clause-got g c = got_by g.F.FabricName.table _ _ _ _ _ _ _ _ c.in-Ok.ensures.taken c.arrival_of.ensures.number
    c.arrival_of.ensures.bytes c.arrival_of.ensures.portals c.place-node.ensures.node

pub returns-in-Ok-clause-here : goal.returns-in-Ok-clause-here
returns-in-Ok-clause-here g c = let got = got_by g.F.FabricName.table _ _ _ _ _ _ _ _ c.in-Ok.ensures.taken c.arrival_of.ensures.number
    c.arrival_of.ensures.bytes c.arrival_of.ensures.portals c.place-node.ensures.node in are_there _ _ _ got.holds.portals_are

pub returns-in-Err-clause-why : goal.returns-in-Err-clause-why
returns-in-Err-clause-why g c = missing_by g.F.FabricName.table _ _ c.in-Err.missed c.in-Err.ensures.refused
