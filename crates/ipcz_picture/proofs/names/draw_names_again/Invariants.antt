use Rattle.std.proofs.Common.{◌*◌}
use Rattle.ipcz_markup.specs.Markup.{Grows, Keeps}
use Rattle.ipcz_picture.proofs.names.draw_names_again.Given as goal

-- what is open is as before, and few bytes were added for each row with names
abbrev pub invariant-loop-k : goal.invariant-loop-k
invariant-loop-k l = Keeps l.fn.out l.out × Grows l.fn.out l.out (20880 * l.k)
