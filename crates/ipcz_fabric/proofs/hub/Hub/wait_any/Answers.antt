use Rattle.ipcz_fabric.proofs.Rounds.{if_ok_begun}
use Rattle.ipcz_fabric.proofs.hub.Hub.wait_any.Goals as goal

pub returns-then-not-are_empty-clause-ready : goal.returns-then-not-are_empty-clause-ready
returns-then-not-are_empty-clause-ready g c = if_ok_begun g.F.FabricName.table c.args.portals.now c.args.from c.beginning-begin.result c.first_ready-first.result
    c.beginning-begin.ensures c.first_ready-first.ensures.ready

pub returns-clause-ready : goal.returns-clause-ready
returns-clause-ready g c = if_ok_begun g.F.FabricName.table c.args.portals.now c.args.from c.beginning-begin.result c.wait_patiently.result
    c.beginning-begin.ensures c.wait_patiently.ensures.ready
