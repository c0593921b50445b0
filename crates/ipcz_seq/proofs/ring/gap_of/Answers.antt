use Rattle.std.proofs.Common.{arith}
use Rattle.ipcz_seq.proofs.Pairs.{at_least}
use Rattle.ipcz_seq.proofs.Gaps.{further, nearer, gap_found}
use Rattle.ipcz_seq.proofs.ring.gap_of.Goals as goal
use Rattle.ipcz_seq.proofs.ring.gap_of.Goals.{then-index-current, else-index-current}

pub overflow_add-current : goal.overflow_add-current
overflow_add-current g c =
    let low = at_least c.args.current c.args.pairs.now.items c.loop-from.place c.index.result.now c.requires (omega arith) in
    omega (arith, low.0, low.1)

pub loop-from-preserved : goal.loop-from-preserved
loop-from-preserved g c = elim c.if-index-current.branch [
  | then-index-current w ↦ rw (w.from-is, w.to-is)
      (further _ _ _ _ _ _ c.requires c.loop-from.invariant c.loop-from-test.true c.index.ensures w.if-index-current.true)
  | else-index-current w ↦ rw (w.from-is, w.to-is)
      (nearer _ _ _ _ _ _ c.requires c.loop-from.invariant c.loop-from-test.true c.index.ensures w.if-index-current.false)
]

pub returns : goal.returns
returns g c = gap_found _ _ _ _ _ c.loop-from.invariant c.loop-from-test.false
