use Rattle.std.proofs.Common.{◌∙◌, ap, is_lt, sym}
use Rattle.ipcz_node.proofs.SortedSets.{gap_at_back, less_from_test}
use Rattle.ipcz_node.proofs.sorted_set.SortedSet.is_above_all.Goals as goal

pub returns-in-Some : goal.returns-in-Some
returns-in-Some g c above =
    rw (← c.self.view_is, ← c.deref.ensures.value) (gap_at_back g.met.T.Ord.total _ c.args.value.now (rw c.deref.ensures.value c.self.invariant)
    (λ d some. rw (← c.in-Some.ensures.item.3.1 d) (less_from_test _ (sym (c.is_lt.ensures ∙ ap is_lt c.cmp.ensures) ∙ above))))
