use Rattle.std.specs.Cmp.{nat_cmp_total}
use Rattle.ipcz_node.proofs.SerialSets.{below_first}
use Rattle.ipcz_node.proofs.SortedSets.{gap_at_front}
use Rattle.ipcz_node.proofs.serial_ring.SerialRing.is_below_all.Goals as goal

pub returns-in-Some : goal.returns-in-Some
returns-in-Some c below =
    let q = c.self.inside.serials in
    rw (← c.self.view_is) (gap_at_front nat_cmp_total q.items c.args.serial c.self.invariant
    (below_first q.items c.in-Some.first.now c.args.serial c.in-Some.ensures.lookup below))
