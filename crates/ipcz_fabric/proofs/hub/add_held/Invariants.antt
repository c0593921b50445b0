use Rattle.std.proofs.Common.{◌-◌, ◌^◌}
use Rattle.ipcz_fabric.proofs.Holding.{IsWalked}
use Rattle.ipcz_fabric.proofs.hub.add_held.Given as goal

-- the ends so far have their portals
abbrev pub invariant-loop-serial : goal.invariant-loop-serial
invariant-loop-serial g l = IsWalked l.fn.cell.part.state l.node l.fn.portals.items l.from l.portals.items

abbrev pub decreases-loop-serial : goal.decreases-loop-serial
decreases-loop-serial g l = 2 ^ 64 - l.from
