-- What is known of words behind a line more, and behind no more values.
use Rattle.std.proofs.Common.{◌≡◌, ℕ, zero, suc, ◌<◌, List, [], ◌∷◌, Option, length, get_or, take, arith, subst, refl}
use Rattle.ipcz_lines.specs.declared.line.ReadLine.{ReadLine}
use Rattle.ipcz_picture.specs.Words.{Sees, SeesAll, TellsValues, Told}

pub sees_next : (read : List ReadLine) (k : ℕ) (d : ReadLine) (known between after : List (Option ℕ)) → k < length read
    → SeesAll (take k read) known between → Sees (get_or read k d).line between after → SeesAll (take (suc k) read) known after
sees_next [] k d known between after less h one = absurd (omega (arith, less))
sees_next (y ∷ read) zero d known between after less h one = (after, subst (λ k. Sees y.line k after) h one, refl)
sees_next (y ∷ read) (suc k) d known between after less h one =
    (h.0, h.1, sees_next read k d h.0 between after (omega (arith, less)) h.2 one)

pub told_all : (rest : List ℕ) (word : ℕ) (known : List (Option ℕ)) → length rest ≡ 0 → TellsValues word rest known known
told_all [] word known none = Told
told_all (b ∷ rest) word known none = absurd (omega (arith, none))
