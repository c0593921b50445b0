-- What stands in a text where it stops being JSON.
use Rattle.std.specs.Prelude.{ℕ, ◌≡◌, ◌<◌, ◌≤◌, ◌⊎◌, List, get_or, length, Result, Ok, Err}
use Rattle.ipcz_places.specs.Values.{BeginsIn}
use Rattle.ipcz_places.specs.declared.broken.Broken.{Broken}
use Rattle.ipcz_places.specs.declared.broken.Broken.TheVariants as broken
use Rattle.ipcz_places.specs.declared.broken.JsonFault.{JsonFault}

-- this byte stands at an offset
abbrev pub StandsAt : List ℕ → ℕ → ℕ → Type 0
StandsAt text at byte = (at < length text) × (get_or text at 32 ≡ byte)

-- a list or an object begins at an offset
abbrev pub Opens : List ℕ → ℕ → Type 0
Opens text at = StandsAt text at 91 ⊎ StandsAt text at 123

-- what stands at the offset from which on a text is no JSON, by why it is none
abbrev pub Grounds : List ℕ → ℕ → Broken → Type 0
Grounds text at broken.Mark = StandsAt text at 239
Grounds text at broken.Empty = at ≡ length text
Grounds text at (broken.Cut bracket) = (at ≡ length text) × Opens text bracket
Grounds text at broken.Behind = BeginsIn text at
Grounds text at (broken.Unmatched bracket) = (StandsAt text at 93 ⊎ StandsAt text at 125) × Opens text bracket
Grounds text at (broken.NoComma bracket) = BeginsIn text at × Opens text bracket
Grounds text at broken.NoColon = BeginsIn text at
Grounds text at broken.NoMember = BeginsIn text at
Grounds text at broken.NoValue = BeginsIn text at
Grounds text at broken.TooDeep = Opens text at
Grounds text at broken.LargeNumber = BeginsIn text at
Grounds text at broken.OpenText = StandsAt text at 34
Grounds text at broken.OpenLine = StandsAt text at 34
Grounds text at broken.Control = (at < length text) × (get_or text at 32 < 32)
Grounds text at broken.Escape = StandsAt text at 92
Grounds text at broken.Digits = StandsAt text at 92
Grounds text at broken.Surrogate = StandsAt text at 92
Grounds text at broken.Utf8 = (at < length text) × (128 ≤ get_or text at 32)

-- the offset behind something that begins at another one, or a fault that is one
abbrev pub Passes : List ℕ → ℕ → Result ℕ JsonFault → Type 0
Passes text from (Ok next) = (from < next) × (next ≤ length text)
Passes text from (Err fault) = Grounds text fault.offset fault.why
