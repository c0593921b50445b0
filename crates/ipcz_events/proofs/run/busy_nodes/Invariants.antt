use Rattle.std.proofs.Common.{◌≡◌, ◌++◌}
use Rattle.std.specs.List.{filter}
use Rattle.ipcz_world.specs.World.{numbers_from}
use Rattle.ipcz_events.specs.Drawing.{is_busy}
use Rattle.ipcz_events.proofs.Busy.{left}
use Rattle.ipcz_events.proofs.run.busy_nodes.Given as goal

-- those that are busy so far, and those of the nodes that are left, are all of them
abbrev pub invariant-loop-node : goal.invariant-loop-node
invariant-loop-node l = l.busy.items ++ filter (is_busy l.session.world) (left l.nodes l.node) ≡ filter (is_busy l.session.world) (numbers_from 0 l.nodes)
