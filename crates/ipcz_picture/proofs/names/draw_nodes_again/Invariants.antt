use Rattle.std.proofs.Common.{◌*◌}
use Rattle.ipcz_markup.specs.Markup.{Grows, Keeps}
use Rattle.ipcz_picture.proofs.names.draw_nodes_again.Given as goal

-- what is open is as before, and few bytes were added for each
abbrev pub invariant-loop-node : goal.invariant-loop-node
invariant-loop-node l = Keeps l.fn.out l.out × Grows l.fn.out l.out (290 * l.node)
