-- What is wrong with a value that is no command.
use Rattle.std.specs.Prelude.{ℕ, zero, suc, ◌≡◌, ◌-◌, ◌==◌, ◌&&◌, ◌||◌, not, List, [], ◌∷◌, length, Bool, false, if◌then◌else◌, codes, bytes_eq}
use Rattle.std.specs.Prelude.{Option, Some, None, is_some, option_map, option_and_then}
use Rattle.std.specs.Option.{option_map_or}
use Rattle.serde_json.specs.Data.{Data}
use Rattle.serde_json.specs.Find.{as_str}
use Rattle.ipcz_script.specs.declared.command.Command.{Command}
use Rattle.ipcz_script.specs.ScriptNames.{is_name, has_angle}
use Rattle.ipcz_script.specs.Shapes.{values_of, number_within, name_in, new_name_in, open_in, put_in, get_in, close_in, turn_in, settle_in, show_in}
use Rattle.ipcz_report.specs.declared.wrong.Kind.{Kind}
use Rattle.ipcz_report.specs.declared.wrong.Kind.TheVariants as kinds
use Rattle.ipcz_report.specs.declared.wrong.Wanted.{Wanted}
use Rattle.ipcz_report.specs.declared.wrong.Wanted.TheVariants as wanted
use Rattle.ipcz_report.specs.declared.wrong.Wrong.{Wrong}
use Rattle.ipcz_report.specs.declared.wrong.Wrong.TheVariants as wrong

-- ---- the values behind a word

-- a name that a portal may be opened under, if it isn't taken
abbrev pub is_plain_name : List ℕ → Bool
is_plain_name name = is_name name && not (has_angle name)

-- whether a value is what it has to be, if there are so many nodes and `taken` says which names are taken
abbrev pub fits : ℕ → (List ℕ → Bool) → Wanted → Data → Bool
fits nodes taken wanted.Node d = is_some (number_within 0 (nodes - 1) d)
fits nodes taken wanted.Count d = is_some (number_within 1 1000000 d)
fits nodes taken wanted.Limit d = is_some (number_within 0 1000000 d)
fits nodes taken wanted.Name d = is_some (name_in d)
fits nodes taken wanted.PlainName d = option_map_or is_plain_name (as_str d) false
fits nodes taken wanted.FreshName d = is_some (new_name_in taken d)
fits nodes taken wanted.Data d = is_some (as_str d)
fits nodes taken wanted.List d = is_some (values_of d)

-- a sign, a point, or the letter of an exponent, which no number of a script has
abbrev pub is_number_mark : ℕ → Bool
is_number_mark b = b == 45 || b == 43 || b == 46 || b == 101 || b == 69

-- the value at an index
abbrev pub at : List Data → ℕ → Option Data
at [] i = None
at (d ∷ ds) zero = Some d
at (d ∷ ds) (suc i) = at ds i

-- whether two values are one text
abbrev pub same_texts : Option (List ℕ) → Option (List ℕ) → Bool
same_texts (Some a) (Some b) = bytes_eq a b
same_texts _ _ = false

-- whether so many values may stand behind a word
abbrev pub takes : Kind → ℕ → Bool
takes kinds.Open n = n == 3
takes kinds.Put n = n == 2 || n == 3
takes kinds.Get n = n == 1
takes kinds.Close n = n == 1
takes kinds.Turn n = n == 2
takes kinds.Settle n = n == 1
takes kinds.Show n = n == 0

-- what is told to be wrong with the values behind a word is so; places are counted from 1
abbrev pub IsWrongWith : ℕ → (List ℕ → Bool) → Kind → List Data → Wrong → Type 0
IsWrongWith nodes taken kind args (wrong.Number k count) = (k ≡ kind) × (count ≡ length args) × (takes kind count ≡ false)
IsWrongWith nodes taken kind args (wrong.Value place wanted) = option_map (fits nodes taken wanted) (at args (place - 1)) ≡ Some false
IsWrongWith nodes taken kind args (wrong.Item place) =
    (kind ≡ kinds.Put)
    × (option_map (fits nodes taken wanted.Name) (option_and_then (λ ds. at ds (place - 1)) (option_and_then values_of (at args 2))) ≡ Some false)
IsWrongWith nodes taken kind args wrong.SameNames =
    (kind ≡ kinds.Open) × (option_and_then as_str (at args 1) ≡ option_and_then as_str (at args 2))
IsWrongWith nodes taken kind args other = ⊥

-- the command of such a word that these values make
abbrev pub kind_in : ℕ → (List ℕ → Bool) → Kind → List Data → Option Command
kind_in nodes taken kinds.Open ds = open_in nodes taken ds
kind_in nodes taken kinds.Put ds = put_in ds
kind_in nodes taken kinds.Get ds = get_in ds
kind_in nodes taken kinds.Close ds = close_in ds
kind_in nodes taken kinds.Turn ds = turn_in nodes ds
kind_in nodes taken kinds.Settle ds = settle_in ds
kind_in nodes taken kinds.Show ds = show_in ds

-- ---- whole commands

-- the word that these bytes are
abbrev pub kind_of : List ℕ → Option Kind
kind_of word =
    if bytes_eq word (codes "open") then Some kinds.Open
    else if bytes_eq word (codes "put") then Some kinds.Put
    else if bytes_eq word (codes "get") then Some kinds.Get
    else if bytes_eq word (codes "close") then Some kinds.Close
    else if bytes_eq word (codes "turn") then Some kinds.Turn
    else if bytes_eq word (codes "settle") then Some kinds.Settle
    else if bytes_eq word (codes "show") then Some kinds.Show
    else None

-- the text that a list begins with
abbrev pub word_of : List Data → Option (List ℕ)
word_of ds = option_and_then as_str (at ds 0)

-- what is told to be wrong with a value that is to be a command is so
abbrev pub IsWrong : ℕ → (List ℕ → Bool) → Data → Wrong → Type 0
IsWrong nodes taken d wrong.NoList = values_of d ≡ None
IsWrong nodes taken d wrong.NoWord = option_and_then word_of (values_of d) ≡ None
IsWrong nodes taken d wrong.UnknownWord = option_map kind_of (option_and_then word_of (values_of d)) ≡ Some None
IsWrong nodes taken d other =
    (word : Data) × (kind : Kind) × (args : List Data) × (values_of d ≡ Some (word ∷ args))
    × (option_and_then kind_of (as_str word) ≡ Some kind) × IsWrongWith nodes taken kind args other
