use Rattle.ipcz_verdict.specs.Desks.{counted}
use Rattle.ipcz_verdict.proofs.Changing.{no_write, write_is}
use Rattle.ipcz_verdict.proofs.books.count_put.Goals as goal

pub returns-in_ok-count_put : goal.returns-in_ok-count_put
returns-in_ok-count_put c =
    write_is c.args.portals.now c.index-i.result _ counted c.index-portals-i.result _ c.if-i-portals.true c.in_ok-count_put.ensures (c.index-i.ensures.0 c.if-i-portals.true)

pub returns-else-i-portals : goal.returns-else-i-portals
returns-else-i-portals c = no_write c.args.portals.now _ counted (c.index-i.ensures.1 c.if-i-portals.false)
