-- What is shown of a text.
use Rattle.std.specs.Prelude.{ℕ, ◌≡◌, ◌<◌, ◌≤◌, ◌++◌, List}
use Rattle.std.specs.List.{All}

-- a printed character of ASCII
abbrev pub IsPrinted : ℕ → Type 0
IsPrinted byte = (32 ≤ byte) × (byte < 127)

-- bytes were added, all of them printed
abbrev pub AddsPrinted : List ℕ → List ℕ → Type 0
AddsPrinted old new = (more : List ℕ) × All IsPrinted more × (new ≡ old ++ more)
