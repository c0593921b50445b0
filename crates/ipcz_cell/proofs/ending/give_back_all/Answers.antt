use Rattle.std.proofs.Common.{length, arith, ap, sym, ◌∙◌}
use Rattle.ipcz_rule.specs.declared.view.Part.{Part}
use Rattle.ipcz_cell.proofs.Resting.{back_first, back_more, back_none, back_part, back_whole}
use Rattle.ipcz_cell.proofs.ending.give_back_all.Goals as goal

pub loop-done-init : goal.loop-done-init
loop-done-init g c = record {
  own = c.requires.own;
  parts = c.requires.whole;
  below = c.requires.held.0;
  held = c.requires.held.1;
  slots = c.requires.slots;
  many = omega (arith, c.len-count.ensures.length);
}

pub unreachable-requires : goal.unreachable-requires
unreachable-requires g c =
    let l = c.loop-done.invariant in
    let many = l.many in
    let empty = ap length c.in_default.ensures.first in
    absurd (omega (arith, many, empty, c.loop-done-test.true))

pub give_back_one-requires-clause-own : goal.give_back_one-requires-clause-own
give_back_one-requires-clause-own g c = c.loop-done.invariant.own

pub give_back_one-requires-clause-whole : goal.give_back_one-requires-clause-whole
give_back_one-requires-clause-whole g c = back_whole _ _ _ _ _ _ _ c.loop-done.invariant

pub give_back_one-requires-clause-node : goal.give_back_one-requires-clause-node
give_back_one-requires-clause-node g c = (ap (λ (p : Part). p.node) (back_part _ _ _ _ _ _ _ c.loop-done.invariant) ∙ c.requires.node.0, c.requires.node.1)

pub give_back_one-requires-clause-from : goal.give_back_one-requires-clause-from
give_back_one-requires-clause-from g c = (back_first _ _ _ _ _ _ _ c.loop-done.invariant c.in-Some.from c.args.node _ c.in-Some.ensures.first c.requires.node.0).0

pub give_back_one-requires-clause-slot : goal.give_back_one-requires-clause-slot
give_back_one-requires-clause-slot g c = (back_first _ _ _ _ _ _ _ c.loop-done.invariant c.in-Some.from c.args.node _ c.in-Some.ensures.first c.requires.node.0).1

pub loop-done-preserved : goal.loop-done-preserved
loop-done-preserved g c =
    back_more _ _ _ _ _ _ _ c.loop-done.invariant _ _ c.in-Some.from _ c.in-Some.ensures.first c.give_back_one.ensures.table c.give_back_one.ensures.done.0 c.give_back_one.ensures.done.1

pub returns-clause-table : goal.returns-clause-table
returns-clause-table g c = c.loop-done.invariant.own

pub returns-clause-done : goal.returns-clause-done
returns-clause-done g c = (c.loop-done.invariant.parts ∙ sym c.requires.whole, back_none _ _ _ _ _ _ _ c.loop-done.invariant (omega (arith, c.loop-done-test.false)))
