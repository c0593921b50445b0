-- What lines tell of the values of link words.
use Rattle.std.specs.Prelude.{ℕ, ◌+◌, ◌≡◌, ◌≢◌, List, [], ◌∷◌, ◌++◌, ◌⊎◌, Option, Some, None, set}
use Rattle.std.specs.List.{All}
use Rattle.std.specs.Fmt.{decimal}
use Rattle.ipcz_lines.specs.LineParts.{IsWordNumber, Reads}
use Rattle.ipcz_lines.specs.declared.line.Line.{Line}
use Rattle.ipcz_lines.specs.declared.line.Line.TheVariants as lines
use Rattle.ipcz_lines.specs.declared.line.Event.TheVariants as events
use Rattle.ipcz_lines.specs.declared.line.ReadLine.{ReadLine}
use Rattle.ipcz_lines.specs.declared.line.RouterEvent.TheVariants as acts

-- the word that a line changes, and its value after that; a word that is claimed is 0
abbrev pub step_of : Line → Option (ℕ × ℕ)
step_of (lines.Turn node (events.Router serial (acts.Word step word after))) = Some (word, after)
step_of (lines.Turn node (events.Router serial (acts.Claim (Some word)))) = Some (word, 0)
step_of other = None

-- the words' values, once one is told; if none is told they stay
abbrev pub values_after : List (Option ℕ) → ℕ → Option ℕ → List (Option ℕ)
values_after known word (Some value) = set known word (Some value)
values_after known word None = known

-- the first of some values, which have a space between each two, and those behind it
pub record IsFirstValue (values : List ℕ) (value : Option ℕ) (rest : List ℕ) : Type 0 where
  pub front : List ℕ
  pub single : All (λ b. b ≢ 32) front
  pub read : Reads decimal IsWordNumber front value
  pub whole : (values ≡ front ++ 32 ∷ rest) ⊎ ((values ≡ front) × (rest ≡ []))

-- The values that a line of words tells, from that of a word on: each of them is that of the word behind the one of the value before.
pub data TellsValues : ℕ → List ℕ → List (Option ℕ) → List (Option ℕ) → Type 0 where
  Told : {word : ℕ} {known : List (Option ℕ)} → TellsValues word [] known known
  Next : {word : ℕ} {values rest : List ℕ} {value : Option ℕ} {known after : List (Option ℕ)} → IsFirstValue values value rest
      → TellsValues (word + 1) rest (values_after known word value) after → TellsValues word values known after

-- what a step tells
abbrev pub step_after : List (Option ℕ) → Option (ℕ × ℕ) → List (Option ℕ)
step_after known (Some step) = set known step.0 (Some step.1)
step_after known None = known

-- what is known behind a line, if this was known above it
abbrev pub Sees : Line → List (Option ℕ) → List (Option ℕ) → Type 0
Sees (lines.Words values) known after = TellsValues 0 values.now known after
Sees other known after = after ≡ step_after known (step_of other)

-- what is known behind lines, if this was known above them
abbrev pub SeesAll : List ReadLine → List (Option ℕ) → List (Option ℕ) → Type 0
SeesAll [] known after = after ≡ known
SeesAll (x ∷ xs) known after = (between : List (Option ℕ)) × Sees x.line known between × SeesAll xs between after
