-- Lines and columns of a text, counted from 1.
use Rattle.std.specs.Prelude.{ℕ, ◌+◌, ◌==◌, ◌≡◌, ◌≤◌, List, [], ◌∷◌, length, take, if◌then◌else◌}
use Rattle.ipcz_places.specs.declared.place.Place.{Place}

-- the line behind some bytes, if it is known before them
abbrev pub line_behind : ℕ → List ℕ → ℕ
line_behind line [] = line
line_behind line (b ∷ bs) = line_behind (if b == 10 then line + 1 else line) bs

-- the same of the column: it begins anew behind a line feed
abbrev pub column_behind : ℕ → List ℕ → ℕ
column_behind column [] = column
column_behind column (b ∷ bs) = column_behind (if b == 10 then 1 else column + 1) bs

-- the line of an offset
abbrev pub line_at : List ℕ → ℕ → ℕ
line_at text offset = line_behind 1 (take offset text)

-- the column of an offset
abbrev pub column_at : List ℕ → ℕ → ℕ
column_at text offset = column_behind 1 (take offset text)

-- a place of this text, with its line and column
pub record IsPlace (text : List ℕ) (place : Place) : Type 0 where
  pub within : place.offset ≤ length text
  pub line : place.line ≡ line_at text place.offset
  pub column : place.column ≡ column_at text place.offset
