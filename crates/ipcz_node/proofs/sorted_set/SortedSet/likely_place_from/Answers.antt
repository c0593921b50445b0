use Rattle.std.proofs.Common.{◌∙◌, ap, sym, arith, is_lt}
use Rattle.ipcz_node.proofs.SortedSets.{less_up_to}
use Rattle.ipcz_node.proofs.sorted_set.SortedSet.likely_place_from.Goals as goal
use Rattle.ipcz_node.proofs.sorted_set.SortedSet.likely_place_from.Goals.{else-place-gt0-via-then-place-gt0+else-not-is_lt, else-place-gt0-via-else-place-gt0}

pub returns-clause-before : goal.returns-clause-before
returns-clause-before g c =
    let members_are = ap (λ s. s.members) c.self.view_is in
    elim c.else-place-gt0.branch [
      | else-place-gt0-via-then-place-gt0+else-not-is_lt w ↦ less_up_to g.met.T.Ord.total c.args.self.now.members c.args.value.now
          w.index-then-place-gt0.result.now c.in_ok-place.place (rw members_are at c.self.invariant) w.if-place-gt0.true
          (omega (arith, c.in_ok-place.ensures)) (rw members_are at w.index-then-place-gt0.ensures)
          (sym (w.is_lt-then-place-gt0.ensures ∙ ap is_lt w.cmp-then-place-gt0.ensures) ∙ w.if-not-is_lt.false)
      | else-place-gt0-via-else-place-gt0 w ↦ λ k d from below. absurd (omega (arith, below, w.if-place-gt0.false))
    ]
