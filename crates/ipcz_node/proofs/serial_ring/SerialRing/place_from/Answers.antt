use Rattle.std.specs.Cmp.{nat_cmp_total}
use Rattle.ipcz_node.proofs.SortedSets.{less_before}
use Rattle.ipcz_node.proofs.serial_ring.SerialRing.place_from.Goals as goal

pub returns-in-Ok-clause-before : goal.returns-in-Ok-clause-before
returns-in-Ok-clause-before c =
    λ k d from below. less_before nat_cmp_total _ _ _ c.in-Ok.ensures.found c.place_of.ensures.sorted k d below
