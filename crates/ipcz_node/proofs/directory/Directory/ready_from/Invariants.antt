use Rattle.std.proofs.Common.{◌-◌, ◌^◌}
use Rattle.std.specs.FinMap.{get}
use Rattle.ipcz_node.specs.Finding.{is_ready_in}
use Rattle.ipcz_node.proofs.Readiness.{ArePassed}
use Rattle.ipcz_node.proofs.directory.Directory.ready_from.Given as goal

abbrev pub invariant-loop-ready : goal.invariant-loop-ready
invariant-loop-ready l = ArePassed (get l.self.filed.routers) (is_ready_in l.self.filed.held) l.serial l.from

abbrev pub decreases-loop-ready : goal.decreases-loop-ready
decreases-loop-ready l = 2 ^ 64 - l.from
