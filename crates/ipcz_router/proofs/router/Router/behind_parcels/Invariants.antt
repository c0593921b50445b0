use Rattle.std.proofs.Common.{◌-◌, ◌≤◌}
use Rattle.ipcz_router.proofs.Statuses.{AreParcels}
use Rattle.ipcz_router.proofs.router.Router.behind_parcels.Given as goal

abbrev pub invariant-loop-n : goal.invariant-loop-n
invariant-loop-n l = AreParcels l.self.router.in_queue l.n × (l.n ≤ l.reach)

abbrev pub decreases-loop-n : goal.decreases-loop-n
decreases-loop-n l = l.reach - l.n
