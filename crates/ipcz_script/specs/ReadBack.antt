-- What a reader finds in the bytes of a transcript: its lines.
use Rattle.std.specs.Prelude.{ℕ, ◌≡◌, ◌⊎◌, ◌==◌, ◌&&◌, Bool, true, not, List, [], ◌∷◌, ◌++◌}
use Rattle.std.specs.List.{list_all}
use Rattle.ipcz_script.specs.declared.command.Command.{Command}
use Rattle.ipcz_script.specs.declared.command.Command.TheVariants.{Open, Put, Get, Close}
use Rattle.ipcz_script.specs.ScriptNames.{is_name, is_name_byte}

-- no byte of the text is this one
abbrev pub lacks : ℕ → List ℕ → Bool
lacks mark [] = true
lacks mark (b ∷ bs) = not (b == mark) && lacks mark bs

-- these lines, each with a line feed behind it
abbrev pub text_of : List (List ℕ) → List ℕ
text_of [] = []
text_of (line ∷ lines) = line ++ 10 ∷ text_of lines

-- no line has a line feed
abbrev pub HaveNoFeeds : List (List ℕ) → Type 0
HaveNoFeeds [] = Unit {0}
HaveNoFeeds (line ∷ lines) = (lacks 10 line ≡ true) × HaveNoFeeds lines

-- these are the lines of a text: each ends at its line feed
pub record AreLines (text : List ℕ) (lines : List (List ℕ)) : Type 0 where
  pub whole : text_of lines ≡ text
  pub each : HaveNoFeeds lines

-- one of the lines is this one
abbrev pub HasLine : List (List ℕ) → List ℕ → Type 0
HasLine [] line = ⊥
HasLine (x ∷ lines) line = (x ≡ line) ⊎ HasLine lines line

-- the text ends with this one
pub record EndsWith (text ending : List ℕ) : Type 0 where
  pub front : List ℕ
  pub whole : front ++ ending ≡ text

-- these words, with a mark between each two
abbrev pub joined : ℕ → List (List ℕ) → List ℕ
joined mark [] = []
joined mark (word ∷ []) = word
joined mark (word ∷ next ∷ words) = word ++ mark ∷ joined mark (next ∷ words)

-- with a space between each two
abbrev pub spaced : List (List ℕ) → List ℕ
spaced = joined 32

-- a text between two marks
abbrev pub between : ℕ → List ℕ → ℕ → List ℕ
between first text last = first ∷ (text ++ last ∷ [])

-- a text is made of the bytes that names have
abbrev pub IsNamely : List ℕ → Type 0
IsNamely text = list_all is_name_byte text ≡ true

-- the names in a command are names
abbrev pub HasNames : Command → Type 0
HasNames (Open node first second) = (is_name first ≡ true) × (is_name second ≡ true)
HasNames (Put at text attached) = is_name at ≡ true
HasNames (Get at) = is_name at ≡ true
HasNames (Close at) = is_name at ≡ true
HasNames other = Unit {0}

-- the same of each command, as of those of each script that is read
abbrev pub HaveNames : List Command → Type 0
HaveNames [] = Unit {0}
HaveNames (c ∷ cs) = HasNames c × HaveNames cs
