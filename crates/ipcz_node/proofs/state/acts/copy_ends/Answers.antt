use Rattle.std.proofs.Common.{refl, ap, sym, ◌∙◌, arith, [], ◌∷◌, drop, ◌+◌, ◌++◌}
use Rattle.std.proofs.lemmas.List.{at_drop_more, at_drop_all, append_assoc, append-nil}
use Rattle.ipcz_node.proofs.state.acts.copy_ends.Goals as goal

pub loop-end-init : goal.loop-end-init
loop-end-init c = (refl, omega (arith, c.requires))

pub push_reserved-requires : goal.push_reserved-requires
push_reserved-requires c = omega (arith, c.loop-end.invariant.1, c.loop-end-test.true)

pub loop-end-preserved : goal.loop-end-preserved
loop-end-preserved c = (
  ap (λ copied. copied ++ drop (c.loop-end.end-index + 1) c.args.ends.now) c.push_reserved.ensures.items
      ∙ append_assoc c.loop-end.copy.items (_ ∷ []) (drop (c.loop-end.end-index + 1) c.args.ends.now)
      ∙ sym (at_drop_more (λ left. c.loop-end.copy.items ++ left) c.args.ends.now c.loop-end.end-index _ c.loop-end-test.true)
      ∙ c.loop-end.invariant.0,
  omega (arith, c.loop-end.invariant.1, c.push_reserved.ensures.len, c.push_reserved.ensures.capacity),
)

pub returns : goal.returns
returns c =
    sym (append-nil c.loop-end.copy.items)
    ∙ sym (at_drop_all (λ left. c.loop-end.copy.items ++ left) c.args.ends.now c.loop-end.end-index c.loop-end-test.false)
    ∙ c.loop-end.invariant.0
