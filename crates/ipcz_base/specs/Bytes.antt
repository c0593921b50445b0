-- The bytes of a parcel: where they stand, and when they take memory.
use Rattle.std.specs.Prelude.{ℕ, ◌<◌, List, length}
use Rattle.ipcz_base.specs.declared.bytes.Kept.{Kept}
use Rattle.ipcz_base.specs.declared.bytes.Kept.TheVariants.{Short, Long}

-- so many bytes at most stand in the value itself
abbrev pub most_short : ℕ
most_short = 16

-- these bytes don't stand in the value itself
abbrev pub WantsMemory : List ℕ → Type 0
WantsMemory bytes = most_short < length bytes

-- the bytes that are kept
unfoldable pub kept_bytes : Kept → List ℕ
kept_bytes (Short bytes) = bytes
kept_bytes (Long bytes) = bytes.items
