-- What is said of a script that isn't wrong.
use Rattle.std.specs.Prelude.{ℕ, ◌≡◌, ◌<◌, List, [], ◌∷◌, ◌++◌, Bool, true, drop, nat_eq}
use Rattle.std.specs.List.{All, starts_with}
use Rattle.ipcz_report.specs.declared.remark.Remark.{Remark}
use Rattle.ipcz_report.specs.declared.wrong.Key.{Key}
use Rattle.ipcz_report.specs.Faults.{key_text}
use Rattle.ipcz_report.specs.Remarks.{remarks_text}

-- the name of a member in quotation marks
abbrev pub quoted_name : Key → List ℕ
quoted_name key = 34 ∷ key_text key ++ 34 ∷ []

-- whether the name of a member stands at an offset
abbrev pub is_named : List ℕ → ℕ → Key → Bool
is_named text at key = starts_with nat_eq (drop at text) (quoted_name key)

-- a remark on the script itself: the name of a member stands at its place, and again further on
abbrev pub IsNote : List ℕ → Remark → Type 0
IsNote text r = (r.number ≡ 0)
    × ((key : Key) × (later : ℕ) × (r.offset < later) × (is_named text r.offset key ≡ true) × (is_named text later key ≡ true))

-- the lines of such remarks
abbrev pub AreNotes : List ℕ → List ℕ → Type 0
AreNotes text lines = (notes : List Remark) × All (IsNote text) notes × (lines ≡ remarks_text text notes)
