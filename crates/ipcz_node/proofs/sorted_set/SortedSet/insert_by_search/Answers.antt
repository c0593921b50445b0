use Rattle.std.proofs.Common.{ap, refl, subst, sym, arith}
use Rattle.ipcz_node.specs.SortedSets.{IsGapFor}
use Rattle.ipcz_node.proofs.SortedSets.{has_present, has_at_place, has_in_gap, has_inserted, sorted_insert}
use Rattle.ipcz_node.proofs.sorted_set.SortedSet.insert_by_search.Goals as goal

-- the value goes into its gap
pub invariant_of-self : goal.invariant_of-self
invariant_of-self g c =
    rw c.in-Ok.ensures.items
    (sorted_insert g.met.T.Ord.total _ _ _ (subst (λ s. IsGapFor g.T.Ord.cmp s.members c.args.value c.in-Err.at) (sym c.self.view_is)
    c.in-Err.ensures.absent) c.self.invariant)

pub returns-in-Ok-clause-members : goal.returns-in-Ok-clause-members
returns-in-Ok-clause-members g c x = rw (c.in-Ok.ensures.items, ← c.self.view_is) (has_inserted g.met.T.Ord.total _ _ _ x)

pub returns-in-Ok-clause-room : goal.returns-in-Ok-clause-room
returns-in-Ok-clause-room g c =
    let absent = has_in_gap g.met.T.Ord.total _ _ _ c.in-Err.ensures.absent in
    let room = ap (λ s. s.room) c.self.view_is in
    let same_block = c.in-Ok.ensures.in_place (omega (arith, room, c.requires)) in
    rw absent (omega (arith, room, same_block.1.0, c.in-Ok.ensures.len))

-- the value was there
pub returns-in_default-clause-members : goal.returns-in_default-clause-members
returns-in_default-clause-members g c x =
    has_present g.met.T.Ord.total _ _ x (has_at_place g.met.T.Ord.total _ _ _ c.in_default.ensures.found)

pub returns-in_default-clause-room : goal.returns-in_default-clause-room
returns-in_default-clause-room g c = rw (has_at_place g.met.T.Ord.total _ _ _ c.in_default.ensures.found) refl
