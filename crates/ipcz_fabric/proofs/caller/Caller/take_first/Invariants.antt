use Rattle.std.proofs.Common.{map, take}
use Rattle.ipcz_fabric.specs.Replays.{ExtendsInTurn}
use Rattle.ipcz_fabric.specs.Selecting.{AreEmpty, vain_get}
use Rattle.ipcz_fabric.proofs.caller.Caller.take_first.Given as goal

-- each portal so far was empty, and the caller has asked these
abbrev pub invariant-loop-place : goal.invariant-loop-place
invariant-loop-place g l = AreEmpty g.F.FabricName.table (take l.place l.portals) × ExtendsInTurn g.F.FabricName.table (map vain_get (take l.place l.portals)) l.fn.self l.self
