use Rattle.std.proofs.Common.{refl}
use Rattle.ipcz_cell.proofs.Seating.{touched_cell}
use Rattle.ipcz_cell.proofs.Keeping.{act_keeps}
use Rattle.ipcz_cell.proofs.Slotting.{none_then}
use Rattle.ipcz_cell.proofs.cell.NodeCell.touch_act.Goals as goal

pub invariant_of-self : goal.invariant_of-self
invariant_of-self g c =
    let done = c.act_here.ensures in
    (touched_cell _ _ _ _ _ _ _ _ _ _ _ _ c.self.invariant.0 done.seated done.done refl (act_keeps _ _ _ c.requires.touch), none_then c.act_here.ensures.slots c.self.invariant.1)
