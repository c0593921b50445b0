use Rattle.std.proofs.Common.{length, arith, ap, refl}
use Rattle.ipcz_cell.proofs.Resting.{left_first, left_more, left_none}
use Rattle.ipcz_cell.proofs.ending.unprobe_all.Goals as goal

pub loop-done-init : goal.loop-done-init
loop-done-init g c = record {
  own = c.requires.own;
  whole = c.requires.whole;
  number = c.requires.node.0;
  same = refl;
  probed = c.requires.probed.0;
  below = c.requires.probed.1;
  slots = c.requires.slots;
  many = omega (arith, c.len-count.ensures.length);
}

pub unreachable-requires : goal.unreachable-requires
unreachable-requires g c =
    let l = c.loop-done.invariant in
    let many = l.many in
    let empty = ap length c.in_default.ensures.first in
    absurd (omega (arith, many, empty, c.loop-done-test.true))

pub unprobe_one-requires-clause-own : goal.unprobe_one-requires-clause-own
unprobe_one-requires-clause-own g c = c.loop-done.invariant.own

pub unprobe_one-requires-clause-whole : goal.unprobe_one-requires-clause-whole
unprobe_one-requires-clause-whole g c = c.loop-done.invariant.whole

pub unprobe_one-requires-clause-node : goal.unprobe_one-requires-clause-node
unprobe_one-requires-clause-node g c = (c.loop-done.invariant.number, c.requires.node.1)

pub unprobe_one-requires-clause-to : goal.unprobe_one-requires-clause-to
unprobe_one-requires-clause-to g c = (left_first _ _ _ _ _ _ _ _ _ _ c.in-Some.to c.loop-done.invariant c.in-Some.ensures.first).0

pub unprobe_one-requires-clause-slot : goal.unprobe_one-requires-clause-slot
unprobe_one-requires-clause-slot g c = (left_first _ _ _ _ _ _ _ _ _ _ c.in-Some.to c.loop-done.invariant c.in-Some.ensures.first).1

pub loop-done-preserved : goal.loop-done-preserved
loop-done-preserved g c =
    left_more _ _ _ _ _ _ _ _ _ _ _ c.loop-done._done c.in-Some.to c.loop-done.invariant c.in-Some.ensures.first c.in-Some.ensures.once c.unprobe_one.ensures.table c.unprobe_one.ensures.done

pub returns-clause-table : goal.returns-clause-table
returns-clause-table g c = c.loop-done.invariant.own

pub returns-clause-done : goal.returns-clause-done
returns-clause-done g c = (left_none _ _ _ _ _ _ _ _ c.loop-done._done c.loop-done.invariant (omega (arith, c.loop-done-test.false))).0

pub returns-clause-slots : goal.returns-clause-slots
returns-clause-slots g c = (left_none _ _ _ _ _ _ _ _ c.loop-done._done c.loop-done.invariant (omega (arith, c.loop-done-test.false))).1
