use Rattle.ipcz_node.proofs.SortedSets.{less_before}
use Rattle.ipcz_node.proofs.sorted_set.SortedSet.place_from.Goals as goal

pub returns-in-Ok-clause-before : goal.returns-in-Ok-clause-before
returns-in-Ok-clause-before g c =
    λ k d from below. less_before g.met.T.Ord.total _ _ _ c.in-Ok.ensures.found c.searched_place.ensures.sorted k d below
