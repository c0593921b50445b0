use Rattle.ipcz_router.specs.declared.act.Answer.TheVariants.{Plain}
use Rattle.std.proofs.Common.{refl}
use Rattle.ipcz_cell.proofs.Seating.{touched_or_same}
use Rattle.ipcz_cell.proofs.Keeping.{router_act_keeps}
use Rattle.ipcz_cell.proofs.Slotting.{none_then}
use Rattle.ipcz_cell.proofs.cell.NodeCell.act_giving.Goals as goal

pub invariant_of-self : goal.invariant_of-self
invariant_of-self g c =
    let done = c.plain_here.ensures in
    (touched_or_same c.plain_here.result _ _ _ _ _ _ _ _ _ _ _ _ _ c.self.invariant.0 done.seated done.done done.err refl (router_act_keeps c.args.serial c.args.act Plain _), none_then c.plain_here.ensures.slots c.self.invariant.1)
