use Rattle.std.proofs.Common.{◌≤◌, ◌<◌, ◌-◌, ◌^◌}
use Rattle.ipcz_fabric.specs.PortalSets.{in_round}
use Rattle.ipcz_fabric.specs.Readiness.{FindsHere, IsThere}
use Rattle.ipcz_fabric.proofs.Scanning.{IsScanned}
use Rattle.ipcz_fabric.proofs.desk.Desk.first_ready.Given as goal

-- the ends so far where something has come were looked for
abbrev pub invariant-loop-serial : goal.invariant-loop-serial
invariant-loop-serial g l = IsScanned l.self (in_round l.portals l.begin) l.from l.first × (l.first ≤ l.limit) ×
    (l.first < l.limit → IsThere (in_round l.portals l.begin) l.first (FindsHere l.self))

abbrev pub decreases-loop-serial : goal.decreases-loop-serial
decreases-loop-serial g l = 2 ^ 64 - l.from
