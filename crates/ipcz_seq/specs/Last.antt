-- The entry of the highest number in a gap queue.
use Rattle.std.specs.Prelude.{ℕ, Bool, true, nat_le, nat_lt, ◌&&◌, Option, Some, None, List, [], ◌∷◌}
use Rattle.std.specs.FinMap.{entries}
use Rattle.ipcz_seq.specs.Queue.{Queue}

-- the last of a list of entries, if it has any
abbrev pub last_of : {X : Type 0} → List X → Option X
last_of [] = None
last_of (x ∷ []) = Some x
last_of (x ∷ y ∷ ys) = last_of (y ∷ ys)

-- the entry of the highest number, if there is any
abbrev pub last_entry : {T : Type 0} → Queue T → Option (ℕ × T)
last_entry q = last_of (entries q.items)

-- whether a number is higher than that of an entry, if there is one
abbrev pub is_above : {T : Type 0} → Option (ℕ × T) → ℕ → Bool
is_above None n = true
is_above (Some e) n = nat_lt e.0 n

-- whether an item of a number goes behind all that are there: it hasn't passed, and each number that is there is lower
abbrev pub goes_behind : {T : Type 0} → Queue T → ℕ → Bool
goes_behind q n = nat_le q.current n && is_above (last_entry q) n
