use Rattle.std.proofs.Common.{◌≡◌, insert, subst, sym}
use Rattle.std.specs.Cmp.{nat_cmp_total}
use Rattle.std.specs.Ordering.{nat_cmp}
use Rattle.ipcz_node.specs.SortedSets.{IsGapFor}
use Rattle.ipcz_node.proofs.SortedSets.{sorted_insert}
use Rattle.ipcz_node.proofs.SerialSets.{added, present}
use Rattle.ipcz_node.proofs.serial_ring.SerialRing.insert_by_search.Goals as goal

-- a push is an insert before the first serial
pushed : (c : goal.After-push_front_reserved) →
    c.push_front_reserved.new.self.items ≡ insert c.self.inside.serials.items 0 c.args.serial
pushed c = c.push_front_reserved.ensures.items

pub invariant_of-self : goal.invariant_of-self
invariant_of-self c =
    rw (pushed c) (sorted_insert nat_cmp_total _ _ _ (subst (λ s. IsGapFor nat_cmp s.members c.args.serial 0)
    (sym c.self.view_is) (c.is_below_all.ensures c.if-is_below_all.true)) c.self.invariant)

pub returns-then-is_below_all-clause-members : goal.returns-then-is_below_all-clause-members
returns-then-is_below_all-clause-members c = λ s. rw (pushed c, ← c.self.view_is) (added _ 0 _ s)

-- the serial goes into its gap
pub invariant_of-self-in-Ok : goal.invariant_of-self-in-Ok
invariant_of-self-in-Ok c =
    rw c.in-Ok.ensures.items (sorted_insert nat_cmp_total _ _ _
    (subst (λ s. IsGapFor nat_cmp s.members c.args.serial c.in-Err.at) (sym c.self.view_is) c.in-Err.ensures.absent) c.self.invariant)

pub returns-in-Ok-clause-members : goal.returns-in-Ok-clause-members
returns-in-Ok-clause-members c = λ s. rw (c.in-Ok.ensures.items, ← c.self.view_is) (added _ _ _ s)

-- the serial was there
pub returns-in_default-clause-members : goal.returns-in_default-clause-members
returns-in_default-clause-members c = λ s. present _ _ _ s c.in_default.ensures.found
