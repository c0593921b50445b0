use Rattle.std.proofs.Common.{refl, ap, sym, ◌∙◌, arith, drop, ◌+◌}
use Rattle.std.proofs.lemmas.List.{at_drop_more, at_drop_all}
use Rattle.ipcz_node.specs.Node.{without_ends}
use Rattle.ipcz_node.proofs.held_ends.HeldEnds.remove_all.Goals as goal

pub loop-end-init : goal.loop-end-init
loop-end-init c = (refl, omega arith)

pub loop-end-preserved : goal.loop-end-preserved
loop-end-preserved c = (
  ap (λ held. without_ends held (drop (c.loop-end.end-index + 1) c.args.ends.now)) c.remove.ensures.ends
      ∙ sym (at_drop_more (without_ends c.loop-end.self.ends) c.args.ends.now c.loop-end.end-index _ c.loop-end-test.true)
      ∙ c.loop-end.invariant.0,
  omega (arith, c.loop-end.invariant.1, c.remove.ensures.room),
)

pub returns-clause-ends : goal.returns-clause-ends
returns-clause-ends c =
    sym (at_drop_all (without_ends c.loop-end.self.ends) c.args.ends.now c.loop-end.end-index c.loop-end-test.false) ∙ c.loop-end.invariant.0
