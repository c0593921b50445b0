use Rattle.std.proofs.Common.{◌-◌}
use Rattle.ipcz_seq.proofs.Gaps.{IsGapWithin}
use Rattle.ipcz_seq.proofs.ring.gap_of.Given as goal

abbrev pub invariant-loop-from : goal.invariant-loop-from
invariant-loop-from g l = IsGapWithin l.current l.pairs.items l.from l.to l.place

abbrev pub decreases-loop-from : goal.decreases-loop-from
decreases-loop-from g l = l.to - l.from
