use Rattle.std.proofs.Common.{◌≡◌, ◌∙◌, insert, length, subst, sym}
use Rattle.std.specs.Cmp.{nat_cmp_total}
use Rattle.std.specs.Ordering.{nat_cmp}
use Rattle.std.proofs.lemmas.List.Edits.{insert_end}
use Rattle.ipcz_node.specs.SortedSets.{IsGapFor}
use Rattle.ipcz_node.proofs.SortedSets.{sorted_insert}
use Rattle.ipcz_node.proofs.SerialSets.{added}
use Rattle.ipcz_node.proofs.serial_ring.SerialRing.insert.Goals as goal

-- a push is an insert behind the last serial
pushed : (c : goal.After-push_back_reserved) →
    c.push_back_reserved.new.self.items ≡ insert c.self.inside.serials.items (length c.self.inside.serials.items) c.args.serial
pushed c = c.push_back_reserved.ensures.items ∙ sym (insert_end c.self.inside.serials.items c.args.serial)

pub invariant_of-self : goal.invariant_of-self
invariant_of-self c =
    rw (pushed c) (sorted_insert nat_cmp_total _ _ _ (subst (λ s. IsGapFor nat_cmp s.members c.args.serial (length s.members))
    (sym c.self.view_is) (c.is_above_all.ensures c.if-is_above_all.true)) c.self.invariant)

pub returns-then-is_above_all-clause-members : goal.returns-then-is_above_all-clause-members
returns-then-is_above_all-clause-members c = λ s. rw (pushed c, ← c.self.view_is) (added _ _ _ s)
