-- The lines of a report.
use Rattle.std.specs.Prelude.{ℕ, ◌==◌, List, [], ◌∷◌, ◌++◌, codes, if◌then◌else◌}
use Rattle.std.specs.Fmt.{decimal}
use Rattle.ipcz_places.specs.Places.{line_at, column_at}
use Rattle.ipcz_report.specs.declared.remark.Remark.{Remark}

-- which command is meant, if it is one
abbrev pub number_text : ℕ → List ℕ
number_text number = if number == 0 then [] else codes "command " ++ decimal number ++ codes ": "

-- a line with its place, the number of a command and what is said
abbrev pub place_text : ℕ → ℕ → ℕ → List ℕ → List ℕ
place_text line column number words =
    codes "line " ++ decimal line ++ codes ", column " ++ decimal column ++ codes ": " ++ number_text number ++ words ++ 10 ∷ []

-- the line of a remark on this text
abbrev pub remark_text : List ℕ → Remark → List ℕ
remark_text text remark = place_text (line_at text remark.offset) (column_at text remark.offset) remark.number remark.words.items

-- the lines of these remarks
abbrev pub remarks_text : List ℕ → List Remark → List ℕ
remarks_text text [] = []
remarks_text text (r ∷ rs) = remark_text text r ++ remarks_text text rs
