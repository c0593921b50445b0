use Rattle.std.specs.Cmp.{nat_cmp_total}
use Rattle.ipcz_node.proofs.SerialSets.{above_last}
use Rattle.ipcz_node.proofs.SortedSets.{gap_at_back}
use Rattle.ipcz_node.proofs.serial_ring.SerialRing.is_above_all.Goals as goal

pub returns-in-Some : goal.returns-in-Some
returns-in-Some c above =
    let q = c.self.inside.serials in
    rw (← c.self.view_is) (gap_at_back nat_cmp_total q.items c.args.serial c.self.invariant
    (above_last q.items q.len c.in-Some.last.now c.args.serial q.ok.0 c.in-Some.ensures.lookup above))
