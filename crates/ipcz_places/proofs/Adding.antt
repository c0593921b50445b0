-- What was added in two steps.
use Rattle.std.proofs.Common.{◌∙◌, ◌++◌, ap, append_assoc, List, ℕ}
use Rattle.std.proofs.lemmas.List.Elements.{All-append}
use Rattle.ipcz_places.specs.Shown.{AddsPrinted, IsPrinted}

pub adds_twice : (old middle new : List ℕ) → AddsPrinted old middle → AddsPrinted middle new → AddsPrinted old new
adds_twice old middle new first second =
    (first.0 ++ second.0, All-append IsPrinted first.0 second.0 first.1 second.1, second.2 ∙ ap (λ xs. xs ++ second.0) first.2 ∙ append_assoc old first.0 second.0)
