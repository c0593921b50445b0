use Rattle.std.proofs.Common.{◌++◌, ◌∷◌, [], ap}
use Rattle.ipcz_base.specs.declared.parcel.Parcel.{Parcel}
use Rattle.std.proofs.Common.{List, slice_index_or}
use Rattle.ipcz_verdict.proofs.Changing.{no_write, write_is}
use Rattle.ipcz_verdict.proofs.books.push.Goals as goal

pub returns-in_ok-push : goal.returns-in_ok-push
returns-in_ok-push c =
    write_is c.args.portals.now c.index-i.result _ (λ p. record p { waiting = p.waiting ++ c.args.parcel ∷ [] }) c.index-portals-i.result _ c.if-i-portals.true
    (ap (λ (w : List Parcel). record (slice_index_or c.args.portals.now c.index-i.result c.index-portals-i.result) { waiting = w }) c.in_ok-push.ensures.ok) (c.index-i.ensures.0 c.if-i-portals.true)

pub returns-else-i-portals : goal.returns-else-i-portals
returns-else-i-portals c = no_write c.args.portals.now _ (λ p. record p { waiting = p.waiting ++ c.args.parcel ∷ [] }) (c.index-i.ensures.1 c.if-i-portals.false)
