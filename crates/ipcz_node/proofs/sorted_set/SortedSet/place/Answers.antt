use Rattle.std.proofs.Common.{sym}
use Rattle.ipcz_node.proofs.SortedSets.{has_at_place, has_in_gap}
use Rattle.ipcz_node.proofs.sorted_set.SortedSet.place.Goals as goal

pub returns-in-Ok-clause-there : goal.returns-in-Ok-clause-there
returns-in-Ok-clause-there g c = sym (has_at_place g.met.T.Ord.total _ _ _ c.in-Ok.ensures.found)

pub returns-in-Err-clause-there : goal.returns-in-Err-clause-there
returns-in-Err-clause-there g c = sym (has_in_gap g.met.T.Ord.total _ _ _ c.in-Err.ensures.absent)
