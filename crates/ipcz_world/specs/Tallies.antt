-- Tallies: numbers that are told if they are numbers of 64 bits.
use Rattle.std.specs.Prelude.{◌≡◌, ◌≤◌, ℕ, ◌^◌, Option, Some, None}

-- the option tells the number; it is none only if that has no 64 bits
abbrev pub Tells : Option ℕ → ℕ → Type 0
Tells None n = 2 ^ 64 ≤ n
Tells (Some m) n = m ≡ n
