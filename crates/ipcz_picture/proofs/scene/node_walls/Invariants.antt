use Rattle.std.proofs.Common.{◌≡◌, length}
use Rattle.ipcz_picture.specs.Bands.{is_shown, HaveBands}
use Rattle.ipcz_picture.proofs.scene.node_walls.Given as goal

-- each node so far has its walls, or none
abbrev pub invariant-loop-node : goal.invariant-loop-node
invariant-loop-node l = (length l.walls.items ≡ l.node) × HaveBands (is_shown l.fn.bands l.fn.lines l.fn.named) l.walls.items
