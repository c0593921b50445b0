use Rattle.std.proofs.Common.{◌+◌, ◌≤◌, ℕ, List, Option, length}
use Rattle.ipcz_picture.specs.Words.{TellsValues}
use Rattle.ipcz_picture.proofs.known_words.KnownWords.tell_all.Given as goal

-- what the rest tells from here on, all values tell from the first on
abbrev pub invariant-telling : goal.invariant-telling
invariant-telling l =
    ((after : List (Option ℕ)) → TellsValues l.index l.rest l.self.values.items after → TellsValues 0 l.values l.fn.self.values.items after)
    × (l.index + length l.rest ≤ length l.values)

abbrev pub decreases-telling : goal.decreases-telling
decreases-telling l = length l.rest
