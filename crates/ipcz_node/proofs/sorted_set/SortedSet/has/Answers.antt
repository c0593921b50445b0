use Rattle.std.proofs.Common.{sym}
use Rattle.ipcz_node.proofs.SortedSets.{has_at_place, has_in_gap}
use Rattle.ipcz_node.proofs.sorted_set.SortedSet.has.Goals as goal

pub returns-in-Ok : goal.returns-in-Ok
returns-in-Ok g c = sym (has_at_place g.met.T.Ord.total _ _ _ c.in-Ok.ensures.found)

pub returns-in-Err : goal.returns-in-Err
returns-in-Err g c = sym (has_in_gap g.met.T.Ord.total _ _ _ c.in-Err.ensures.absent)
