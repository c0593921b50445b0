use Rattle.std.proofs.Common.{◌*◌}
use Rattle.ipcz_markup.specs.Markup.{Grows, Keeps}
use Rattle.ipcz_picture.proofs.portals.draw_portal_calls.Given as goal

-- what is open is as before, and few bytes were added for each
abbrev pub invariant-loop-line : goal.invariant-loop-line
invariant-loop-line l = Keeps l.fn.out l.out × Grows l.fn.out l.out (740 * l.line)
