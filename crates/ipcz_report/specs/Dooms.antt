-- Which puts are refused whatever was done before them.
use Rattle.std.specs.Prelude.{ℕ, ◌≡◌, ◌||◌, List, [], ◌∷◌, length, Bool, false, not, nat_lt, bytes_eq}
use Rattle.std.specs.List.{list_any}
use Rattle.ipcz_base.specs.Limits.{is_printable}
use Rattle.ipcz_script.specs.declared.said.Said.TheVariants as said
use Rattle.ipcz_script.specs.Sessions.{Session, replied_put}
use Rattle.ipcz_report.specs.declared.doom.Doom.{Doom}
use Rattle.ipcz_report.specs.declared.doom.Doom.TheVariants as dooms

-- whether a name stands twice in a list
abbrev pub has_twice : List (List ℕ) → Bool
has_twice [] = false
has_twice (name ∷ names) = list_any (bytes_eq name) names || has_twice names

-- whether this is so of a put at a portal, with this text and these portals
abbrev pub applies : Doom → List ℕ → List ℕ → List (List ℕ) → Bool
applies dooms.TooLong at text names = nat_lt 256 (length text)
applies dooms.TooMany at text names = nat_lt 8 (length names)
applies dooms.Unprinted at text names = not (is_printable text)
applies dooms.Itself at text names = list_any (bytes_eq at) names
applies dooms.Twice at text names = has_twice names

-- whether any of it is so
abbrev pub is_doomed : List ℕ → List ℕ → List (List ℕ) → Bool
is_doomed at text names = applies dooms.TooLong at text names || applies dooms.TooMany at text names || applies dooms.Unprinted at text names
    || applies dooms.Itself at text names || applies dooms.Twice at text names

-- in no session does such a put put anything
abbrev pub IsRefusedInEachRun : List ℕ → List ℕ → List (List ℕ) → Type 0
IsRefusedInEachRun at text names = (s : Session) (n : ℕ) → (replied_put s at text names).said ≡ said.Put n → ⊥
