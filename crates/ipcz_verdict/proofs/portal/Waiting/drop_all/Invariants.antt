use Rattle.std.proofs.Common.{◌≡◌, ◌++◌, length}
use Rattle.ipcz_verdict.specs.Desks.{ends_in}
use Rattle.ipcz_verdict.proofs.portal.Waiting.drop_all.Given as goal

abbrev pub invariant-loop-parcel : goal.invariant-loop-parcel
invariant-loop-parcel l = l.dropped.items ++ ends_in l.self ≡ l.fn.dropped.items ++ ends_in l.fn.self

abbrev pub decreases-loop-parcel : goal.decreases-loop-parcel
decreases-loop-parcel l = length l.self
