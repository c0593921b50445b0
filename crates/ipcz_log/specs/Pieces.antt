-- A text that comes in pieces, and its lines.
use Rattle.std.specs.Prelude.{ℕ, ◌≡◌, ◌⊎◌, ◌<◌, ◌≤◌, Bool, true, false, List, [], ◌∷◌, ◌++◌, length, Option}
use Rattle.std.specs.Io.KnownBytes.{Consumes, IsAtEnd}
use Rattle.ipcz_log.specs.Verdicts.{text_lines}

-- what was read of a text: the last line of it, what isn't in a line yet, and whether nothing comes behind it
pub record Pieces : Type 0 where
  pub line : List ℕ
  pub unread : List ℕ
  pub ended : Bool

-- some front of what was left to read was taken
abbrev pub ConsumesSome : Option (List ℕ) → Option (List ℕ) → Type 0
ConsumesSome before after = (read : List ℕ) × Consumes before after read

-- a property of all that there was to read: that was read whole; or the property holds whatever stands behind what was read
abbrev pub HoldsOfInput : Option (List ℕ) → Option (List ℕ) → (List ℕ → Type 0) → Type 0
HoldsOfInput before after holds =
    (read : List ℕ) × Consumes before after read × ((IsAtEnd after × holds read) ⊎ ((behind : List ℕ) → holds (read ++ behind)))

-- a piece more was read, which is empty only at the end
pub record ReadsPiece (before after : Option (List ℕ)) (new : Pieces) : Type 0 where
  pub taken : Consumes before after new.unread
  pub few : length new.unread ≤ 4096
  pub some : new.ended ≡ false → 0 < length new.unread
  pub none : new.ended ≡ true → new.unread ≡ []
  pub ended : new.ended ≡ true → IsAtEnd after

-- the lines of a text are the one that was read and these others; or there is none, and all was read
abbrev pub IsCut : Bool → List (List ℕ) → Pieces → List (List ℕ) → Type 0
IsCut true all p others = all ≡ p.line ∷ others
IsCut false all p others = (all ≡ []) × (p.line ≡ []) × (p.unread ≡ []) × (p.ended ≡ true)

-- the next line was read, if there is one: it is the first line of what wasn't in a line yet and what was read now, whatever stands behind that
pub record ReadsLine (before after : Option (List ℕ)) (old new : Pieces) (some : Bool) : Type 0 where
  pub read : List ℕ
  pub taken : Consumes before after read
  pub ended : new.ended ≡ true → IsAtEnd after
  pub over : old.ended ≡ true → (read ≡ []) × (new.ended ≡ true)
  pub lines : (behind : List ℕ) → (new.ended ≡ true → behind ≡ []) → IsCut some (text_lines (old.unread ++ (read ++ behind))) new (text_lines (new.unread ++ behind))
