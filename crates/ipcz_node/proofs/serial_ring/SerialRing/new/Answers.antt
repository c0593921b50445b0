use Rattle.std.specs.Ordering.{nat_cmp}
use Rattle.ipcz_node.proofs.SortedSets.{sorted_none}
use Rattle.ipcz_node.proofs.serial_ring.SerialRing.new.Goals as goal

pub invariant_of-result : goal.invariant_of-result
invariant_of-result c = rw c.new.ensures.items (sorted_none nat_cmp)
