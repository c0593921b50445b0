use Rattle.std.proofs.Common.{arith}
use Rattle.ipcz_seq.proofs.Gaps.{gap_fits}
use Rattle.ipcz_seq.proofs.Reach.{reach_at_gap}
use Rattle.ipcz_seq.proofs.ring.reach_of.Goals as goal

pub overflow_add-result : goal.overflow_add-result
overflow_add-result g c = let low = gap_fits _ _ _ c.requires c.gap_of.ensures c.ranges.current.fits in omega (arith, low)

pub returns : goal.returns
returns g c = reach_at_gap _ _ _ c.requires c.gap_of.ensures
