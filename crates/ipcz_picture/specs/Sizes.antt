-- How many bytes a picture takes at most.
use Rattle.std.specs.Prelude.{ℕ, ◌+◌, ◌*◌, ◌≤◌, List, length, take, drop}
use Rattle.std.specs.List.{sum_by}
use Rattle.ipcz_lines.specs.declared.line.Line.{Line}
use Rattle.ipcz_lines.specs.declared.line.Line.TheVariants as lines
use Rattle.ipcz_lines.specs.declared.line.ReadLine.{ReadLine}
use Rattle.ipcz_picture.specs.declared.rows.Place.{Place}

-- the signs of a line: a word's name and cells for each value of a line of words
abbrev pub most_marks : Line → ℕ
most_marks (lines.Words values) = 1890 * (length values.now + 1)
most_marks other = 3000

-- the row of a line, with the whole line as its title
abbrev pub most_row : ReadLine → ℕ
most_row x = 1370 + 6 * length x.text.now + most_marks x.line

-- the row at a place
abbrev pub most_place : List ReadLine → Place → ℕ
most_place read p = sum_by most_row (take p.count (drop p.first read))

-- a picture: its heading and the portals that are named, and in addition to the row of a line its ground, a router's lifeline and name, a
-- message, and a call
abbrev pub most_picture : List ReadLine → ℕ
most_picture read = 105000 + 11340 * length read + sum_by most_row read

-- the size of a picture is linear: so many bytes for its heading, for each line, and for each byte of the lines
abbrev pub IsBounded : List ℕ → List ReadLine → List ℕ → Type 0
IsBounded input read text = length text ≤ 105000 + 15700 * length read + 1900 * length input
