-- Which part of a transcript is asked for, and which lines are drawn then.
use Rattle.std.specs.Prelude.{ℕ, ◌≡◌, ◌≢◌, ◌-◌, ◌≤◌, ◌<◌, List, Option, Some, None, min}
use Rattle.std.specs.Fmt.{decimal}
use Rattle.ipcz_lines.specs.LineParts.{IsNumber}
use Rattle.ipcz_picture.specs.declared.part.Bounds.{Bounds}
use Rattle.ipcz_picture.specs.declared.part.Part.{Part}

-- a part from a line to one that doesn't stand before it; lines are counted from 1
pub record IsPart (p : Part) : Type 0 where
  pub some : 0 < p.from
  pub ordered : p.from ≤ p.to
  pub few : IsNumber p.to

-- the part whose two numbers these are in decimal; nothing if they are those of none
abbrev pub IsAskedBy : List ℕ → List ℕ → Option Part → Type 0
IsAskedBy from to (Some p) = IsPart p × (decimal p.from ≡ from) × (decimal p.to ≡ to)
IsAskedBy from to None = (p : Part) → IsPart p → decimal p.from ≡ from → decimal p.to ≢ to

-- the index behind the last line that is drawn of so many lines, and that of the first one; of a part that goes on behind the last line
-- those up to there
abbrev pub end_of : Option Part → ℕ → ℕ
end_of None count = count
end_of (Some p) count = min p.to count

abbrev pub first_of : Option Part → ℕ → ℕ
first_of None count = 0
first_of (Some p) count = min (p.from - 1) (min p.to count)

-- a line that has a row
abbrev pub IsWithin : Bounds → ℕ → Type 0
IsWithin bounds line = (bounds.first ≤ line) × (line < bounds.end)

-- something that goes on from a line to another, so that a row between them shows it
abbrev pub Meets : Bounds → ℕ → ℕ → Type 0
Meets bounds from to = (from < bounds.end) × (bounds.first ≤ to)
