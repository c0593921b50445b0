-- Which ends routers serve.
use Rattle.std.specs.Prelude.{ℕ, ◌/◌, ◌%◌, ◌≡◌, ◌<◌, ◌≤◌, true, false, List, length, Option, Some, None}
use Rattle.std.specs.List.{AllWithin, HoldsAt}
use Rattle.ipcz_lines.specs.declared.line.ReadLine.{ReadLine}
use Rattle.ipcz_lines.specs.declared.line.parts.Side.{Side}
use Rattle.ipcz_lines.specs.declared.line.parts.Side.TheVariants as sides
use Rattle.ipcz_messages.specs.Messages.{is_settle}

-- the first settle, or, if there is none, the end
pub record IsFirstSettle (read : List ReadLine) (i : ℕ) : Type 0 where
  pub within : i ≤ length read
  pub before : AllWithin (λ x. is_settle x.line ≡ false) read 0 i
  pub there : i < length read → HoldsAt (λ x. is_settle x.line ≡ true) read i

-- of the two bits from this one on, side A's and side B's, the one of this side is set and the other isn't; with no side both are or none
abbrev pub IsLoneSide : ℕ → ℕ → Option Side → Type 0
IsLoneSide value bit (Some sides.A) = (value / bit % 2 ≡ 1) × (value / bit / 2 % 2 ≡ 0)
IsLoneSide value bit (Some sides.B) = (value / bit % 2 ≡ 0) × (value / bit / 2 % 2 ≡ 1)
IsLoneSide value bit None = value / bit % 2 ≡ value / bit / 2 % 2
