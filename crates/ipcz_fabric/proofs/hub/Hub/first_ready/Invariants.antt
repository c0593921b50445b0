use Rattle.std.proofs.Common.{◌-◌, length}
use Rattle.ipcz_fabric.specs.PortalSets.{in_round}
use Rattle.ipcz_fabric.proofs.Scanning.{IsLooked}
use Rattle.ipcz_fabric.proofs.hub.Hub.first_ready.Given as goal

-- what the looks so far have found
abbrev pub invariant-loop-looked : goal.invariant-loop-looked
invariant-loop-looked g l = IsLooked g.F.FabricName.table (in_round l.portals l.from) l.nodes l.first l.looked l.stopped

abbrev pub decreases-loop-looked : goal.decreases-loop-looked
decreases-loop-looked g l = length l.nodes - l.looked
