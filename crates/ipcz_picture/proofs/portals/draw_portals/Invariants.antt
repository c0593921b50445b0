use Rattle.std.proofs.Common.{◌+◌, ◌*◌}
use Rattle.ipcz_markup.specs.Markup.{Grows, Keeps}
use Rattle.ipcz_picture.proofs.portals.draw_portals.Given as goal

-- what is open is as before, and few bytes were added for each
abbrev pub invariant-loop-index : goal.invariant-loop-index
invariant-loop-index l = Keeps l.fn.out l.out × Grows l.fn.out l.out (800 + 990 * l.index)
