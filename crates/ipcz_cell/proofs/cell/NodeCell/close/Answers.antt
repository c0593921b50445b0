use Rattle.std.proofs.Common.{refl}
use Rattle.ipcz_cell.proofs.Seating.{touched_or_same}
use Rattle.ipcz_cell.proofs.Keeping.{close_keeps}
use Rattle.ipcz_cell.proofs.Slotting.{none_then}
use Rattle.ipcz_cell.proofs.cell.NodeCell.close.Goals as goal

pub invariant_of-self : goal.invariant_of-self
invariant_of-self g c =
    let done = c.close_here.ensures in
    (touched_or_same c.close_here.result _ _ _ _ _ _ _ _ _ _ _ _ _ c.self.invariant.0 done.seated done.done done.err refl (close_keeps _ _), none_then c.close_here.ensures.slots c.self.invariant.1)
