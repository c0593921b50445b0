use Rattle.std.proofs.Common.{subst}
use Rattle.std.specs.Cmp.{nat_cmp_total}
use Rattle.std.specs.List.Sorted.{IsSearchInRange}
use Rattle.ipcz_node.proofs.SortedSets.{gap_from_search}
use Rattle.ipcz_node.proofs.serial_ring.SerialRing.place_of.Goals as goal

pub returns-clause-absent : goal.returns-clause-absent
returns-clause-absent c =
    let found = c.binary_search.ensures in
    rw (← c.self.view_is) (gap_from_search nat_cmp_total _ _ _ c.self.invariant
    (subst (IsSearchInRange c.binary_search.result) c.self.inside.serials.ok.0 found.bound) found.position)
