use Rattle.std.proofs.Common.{◌+◌, ◌*◌, ◌≤◌, length}
use Rattle.ipcz_markup.specs.Markup.{Grows, Keeps}
use Rattle.ipcz_picture.proofs.word_cells.draw_words.Given as goal

-- what is open is as before, few bytes were added for each word so far, and each had a byte or more of the values
abbrev pub invariant-drawing : goal.invariant-drawing
invariant-drawing l = Keeps l.fn.out l.out × Grows l.fn.out l.out (1890 * l.word) × (l.word + length l.rest ≤ length l.values)

abbrev pub decreases-drawing : goal.decreases-drawing
decreases-drawing l = length l.rest
