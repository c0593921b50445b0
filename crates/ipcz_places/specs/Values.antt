-- Where a value may begin in a JSON text.
use Rattle.std.specs.Prelude.{ℕ, ◌≡◌, ◌<◌, ◌==◌, ◌||◌, Bool, false, List, get_or, length}
use Rattle.ipcz_places.specs.declared.values.Member.{Member}

-- a byte that may stand between values
abbrev pub is_space : ℕ → Bool
is_space b = b == 32 || b == 9 || b == 10 || b == 13

-- an offset within the text, at which no space stands
abbrev pub BeginsIn : List ℕ → ℕ → Type 0
BeginsIn text offset = (offset < length text) × (is_space (get_or text offset 32) ≡ false)

-- both a name and a value
abbrev pub MembersBegin : List ℕ → Member → Type 0
MembersBegin text member = BeginsIn text member.name × BeginsIn text member.value
