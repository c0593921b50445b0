use Rattle.std.proofs.Common.{Err, ap, sym, subst, ◌∙◌, arith}
use Rattle.std.proofs.lemmas.Result.{err_from_is_err_and}
use Rattle.ipcz_base.specs.declared.end.End.{End}
use Rattle.ipcz_rule.specs.declared.history.Call.TheVariants as calls
use Rattle.ipcz_fabric.specs.Portals.{PortalValue}
use Rattle.ipcz_fabric.specs.Replays.{LeavesPart}
use Rattle.ipcz_fabric.proofs.Portaling.{ends_told, sizes_there}
use Rattle.ipcz_fabric.proofs.portal.Portal.get_here.Goals as goal
use Rattle.ipcz_fabric.proofs.portal.Portal.get_here.Goals.{in-Some, in-None}

pub with_portals-requires-clause-room : goal.with_portals-requires-clause-room
with_portals-requires-clause-room g c =
    let sizes = sizes_there _ _ _ c.in_ok-n.ensures.allowed c.in_ok-n.ensures.parcel in
    let room = c.in-Ok.ensures.capacity in
    elim c.match-next_sizes.branch [
      | in-Some w ↦ let e = w.count-is ∙ ap ends_told (sym w.in-Some.is ∙ (c.next_sizes.ensures ∙ sizes)) in omega (arith, room, e)
      | in-None w ↦ absurd (let e = sym w.in-None.is ∙ (c.next_sizes.ensures ∙ sizes) in cc)
    ]

pub returns-in_err-n-clause-left : goal.returns-in_err-n-clause-left
returns-in_err-n-clause-left g c =
    let p = err_from_is_err_and c.from_residual.result c.from_residual.ensures.1 in
    rw (p.1, p.2) (subst (λ (e : End). LeavesPart c.args.me.now.id (calls.Got e (Err c.in_err-n.field-0.0)) c.args.desk.now.part c.args.desk.now c.get.new.self)
    (ap (λ (v : PortalValue). v.end) c.self.view_is) c.in_err-n.ensures.left)
