use Rattle.ipcz_verdict.specs.Desks.{took}
use Rattle.ipcz_verdict.proofs.Changing.{no_write, write_is}
use Rattle.ipcz_verdict.proofs.books.take.Goals as goal

pub returns-in_ok-take : goal.returns-in_ok-take
returns-in_ok-take c =
    write_is c.args.portals.now c.index-i.result _ took c.index-portals-i.result _ c.if-i-portals.true c.in_ok-take.ensures (c.index-i.ensures.0 c.if-i-portals.true)

pub returns-else-i-portals : goal.returns-else-i-portals
returns-else-i-portals c = no_write c.args.portals.now _ took (c.index-i.ensures.1 c.if-i-portals.false)
