-- Which numbers are of a slot.
use Rattle.std.specs.Prelude.{◌≡◌, ◌≤◌, ◌<◌, ◌%◌, ℕ, Option, Some, None}

-- the least number from a count on, below a limit, whose slot it is; or there is none
abbrev pub IsNextNumber : (count slot slots limit : ℕ) → Option ℕ → Type 0
IsNextNumber count slot slots limit (Some n) = (count ≤ n) × (n < limit) × (n % slots ≡ slot) × ((m : ℕ) → count ≤ m → m % slots ≡ slot → n ≤ m)
IsNextNumber count slot slots limit None = (m : ℕ) → count ≤ m → m % slots ≡ slot → limit ≤ m
