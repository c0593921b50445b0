use Rattle.std.proofs.Common.{refl}
use Rattle.ipcz_cell.proofs.Seating.{touched_or_same}
use Rattle.ipcz_cell.proofs.Keeping.{get_keeps}
use Rattle.ipcz_cell.proofs.Slotting.{none_then}
use Rattle.ipcz_cell.proofs.cell.NodeCell.get.Goals as goal

pub invariant_of-self : goal.invariant_of-self
invariant_of-self g c =
    let done = c.get_here.ensures in
    (touched_or_same c.get_here.result _ _ _ _ _ _ _ _ _ _ _ _ _ c.self.invariant.0 done.seated done.done done.err refl (get_keeps _ _), none_then c.get_here.ensures.slots c.self.invariant.1)
