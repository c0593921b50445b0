use Rattle.std.proofs.Common.{◌++◌, ap, ◌∙◌}
use Rattle.ipcz_verdict.specs.declared.portal.Portal.{Portal}
use Rattle.ipcz_verdict.specs.Desks.{ends_in, shut}
use Rattle.ipcz_verdict.proofs.Changing.{at_index, no_write, nothing_beyond, portal_seen, write_is}
use Rattle.ipcz_verdict.proofs.books.shut.Goals as goal

pub returns-in_ok-close-clause-portals : goal.returns-in_ok-close-clause-portals
returns-in_ok-close-clause-portals c =
    write_is c.args.portals.now c.index-i.result _ shut c.index-portals-i.result _ c.if-i-portals.true c.in_ok-close.ensures.portal (c.index-i.ensures.0 c.if-i-portals.true)

pub returns-in_ok-close-clause-dropped : goal.returns-in_ok-close-clause-dropped
returns-in_ok-close-clause-dropped c =
    c.in_ok-close.ensures.dropped ∙ ap (λ (p : Portal). c.args.dropped.now.items ++ ends_in p.waiting)
    (portal_seen c.args.portals.now c.index-i.result c.index-portals-i.result c.if-i-portals.true ∙ at_index c.args.portals.now c.index-i.result c.args.end (c.index-i.ensures.0 c.if-i-portals.true))

pub returns-else-i-portals-clause-portals : goal.returns-else-i-portals-clause-portals
returns-else-i-portals-clause-portals c = no_write c.args.portals.now _ shut (c.index-i.ensures.1 c.if-i-portals.false)

pub returns-else-i-portals-clause-dropped : goal.returns-else-i-portals-clause-dropped
returns-else-i-portals-clause-dropped c = nothing_beyond c.args.portals.now c.args.end c.args.dropped.now.items (c.index-i.ensures.1 c.if-i-portals.false)
