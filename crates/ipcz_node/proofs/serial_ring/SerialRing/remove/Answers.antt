use Rattle.std.proofs.Common.{◌≡◌, ◌∙◌, remove, subst, sym, true≢false}
use Rattle.std.specs.Cmp.{nat_cmp_total}
use Rattle.std.specs.Ordering.{nat_cmp}
use Rattle.ipcz_node.specs.SortedSets.{IsPlaceOf}
use Rattle.ipcz_node.proofs.SortedSets.{has_in_gap, sorted_remove}
use Rattle.ipcz_node.proofs.SerialSets.{taken}
use Rattle.ipcz_node.proofs.serial_ring.SerialRing.remove.Goals as goal

-- the serial was the lowest
pub invariant_of-self : goal.invariant_of-self
invariant_of-self c =
    let place = subst (λ s. IsPlaceOf nat_cmp s.members c.args.serial 0) (sym c.self.view_is) (c.is_first.ensures c.if-is_first.true) in
    rw c.pop_front.ensures.rest (sorted_remove nat_cmp_total _ 0 place.in_range c.self.invariant)

pub returns-then-is_first-clause-members : goal.returns-then-is_first-clause-members
returns-then-is_first-clause-members c = λ s.
    let place = subst (λ s. IsPlaceOf nat_cmp s.members c.args.serial 0) (sym c.self.view_is) (c.is_first.ensures c.if-is_first.true) in
    rw (c.pop_front.ensures.rest, ← c.self.view_is) (taken _ 0 _ s place c.self.invariant)

-- the serial was there
at_place : (c : goal.After-remove) → IsPlaceOf nat_cmp c.self.inside.serials.items c.args.serial c.in-Ok.at
at_place c = subst (λ s. IsPlaceOf nat_cmp s.members c.args.serial c.in-Ok.at) (sym c.self.view_is) c.in-Ok.ensures.found

removed : (c : goal.After-remove) → c.remove.new.self.items ≡ remove c.self.inside.serials.items c.in-Ok.at
removed c = rw (c.remove.ensures.succeeds 0 (rw c.self.inside.serials.ok.0 (at_place c).in_range)) at c.remove.ensures.items

pub invariant_of-self-in-Ok : goal.invariant_of-self-in-Ok
invariant_of-self-in-Ok c = rw (removed c) (sorted_remove nat_cmp_total _ _ (at_place c).in_range c.self.invariant)

pub returns-in-Ok-clause-members : goal.returns-in-Ok-clause-members
returns-in-Ok-clause-members c = λ s. rw (removed c, ← c.self.view_is) (taken _ _ _ s (at_place c) c.self.invariant)

-- none is missing
pub returns-in_default-clause-members : goal.returns-in_default-clause-members
returns-in_default-clause-members c = absurd (true≢false (sym c.requires ∙ has_in_gap nat_cmp_total _ _ _ c.in_default.ensures.absent))

pub returns-in_default-clause-room : goal.returns-in_default-clause-room
returns-in_default-clause-room c = absurd (true≢false (sym c.requires ∙ has_in_gap nat_cmp_total _ _ _ c.in_default.ensures.absent))
