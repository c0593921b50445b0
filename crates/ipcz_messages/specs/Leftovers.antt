-- Which act made a message that isn't seen handled.
use Rattle.std.specs.Prelude.{ℕ, Bool, true, false, ◌≡◌, ◌<◌, ◌+◌, ◌==◌, ◌&&◌, List, length, nat_lt, Option, Some, None}
use Rattle.std.specs.List.{AllWithin, HoldsAt}
use Rattle.ipcz_messages.specs.declared.messages.made.Made.{Made}
use Rattle.ipcz_messages.specs.declared.messages.Message.{Message}

-- made by a node before a line
abbrev pub is_of : ℕ → ℕ → Made → Bool
is_of node line m = (m.node == node) && nat_lt m.line line

-- the act at this place is the node's, before the line, and no other is
pub record IsOnly (made : List Made) (node line i : ℕ) : Type 0 where
  pub within : i < length made
  pub holds : HoldsAt (λ m. is_of node line m ≡ true) made i
  pub before : AllWithin (λ m. is_of node line m ≡ false) made 0 i
  pub behind : AllWithin (λ m. is_of node line m ≡ false) made (i + 1) (length made)

-- the only act of the node before the line, if there is such a one
abbrev pub IsOnlyOf : List Made → ℕ → ℕ → Option ℕ → Type 0
IsOnlyOf made node line (Some i) = IsOnly made node line i
IsOnlyOf made node line None = (i : ℕ) → IsOnly made node line i → ⊥

-- a message with what made it: the line, the router, the kind, and the ends that moved
pub record IsMadeBy (made : Made) (m : Message) : Type 0 where
  pub line : m.made ≡ Some made.line
  pub router : m.maker ≡ made.router
  pub kind : m.kind ≡ Some made.kind
  pub moves : m.moves ≡ made.moves
