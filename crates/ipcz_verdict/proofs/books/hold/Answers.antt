use Rattle.std.proofs.Common.{refl}
use Rattle.ipcz_verdict.proofs.Changing.{no_write, write_is}
use Rattle.ipcz_verdict.proofs.books.hold.Goals as goal

pub returns-then-i-portals : goal.returns-then-i-portals
returns-then-i-portals c =
    write_is c.args.portals.now c.index-i.result _ (λ p. record p { holder = c.args.holder }) c.index-portals-i.result _ c.if-i-portals.true refl (c.index-i.ensures.0 c.if-i-portals.true)

pub returns-else-i-portals : goal.returns-else-i-portals
returns-else-i-portals c = no_write c.args.portals.now _ (λ p. record p { holder = c.args.holder }) (c.index-i.ensures.1 c.if-i-portals.false)
