-- What is known of the messages while the lines are gone through.
use Rattle.std.specs.Prelude.{ℕ, ◌≡◌, ◌<◌, ◌≤◌, ◌⊎◌, List, Option, Some, None}
use Rattle.std.specs.List.{All, Any}
use Rattle.ipcz_lines.specs.declared.line.ReadLine.{ReadLine}
use Rattle.ipcz_messages.specs.declared.messages.Message.{Message}
use Rattle.ipcz_messages.specs.Messages.{hands_at, is_hand, is_look, is_post, looks_at, posts_at, IsAt, IsHanded, IsLooked, IsMessage}
use Rattle.ipcz_messages.specs.Messages.{IsPosted}

-- a message that comes into sight at a line: of a post, or of a look or a hand that is of none before
abbrev pub ComesAt : List ReadLine → ℕ → List Message → Message → Type 0
ComesAt read n before m =
    ((from : ℕ) × (to : ℕ) × IsPosted read from to n m)
    ⊎ (((from : ℕ) × (to : ℕ) × IsLooked read from to n m × All (λ x. x.looked ≡ Some n → ⊥) before)
    ⊎ ((to : ℕ) × IsHanded read to n m × All (λ x. x.handled ≡ Some n → ⊥) before))

-- a line at which none does: no post, and a look or a hand only if it is of one before
pub record IsPassed (read : List ReadLine) (n : ℕ) (before : List Message) : Type 0 where
  pub post : (from to : ℕ) → IsAt (is_post from to) read n → ⊥
  pub look : (from to : ℕ) → IsAt (is_look from to) read n → Any (λ x. x.looked ≡ Some n) before
  pub hand : (to : ℕ) → IsAt (is_hand to) read n → Any (λ x. x.handled ≡ Some n) before

-- the message that comes into sight at a line, if one does
abbrev pub IsFirstSeen : List ReadLine → ℕ → List Message → Option Message → Type 0
IsFirstSeen read n before (Some m) = ComesAt read n before m
IsFirstSeen read n before None = IsPassed read n before

-- a message came into sight before a line
pub record IsEarly (n : ℕ) (m : Message) : Type 0 where
  pub posted : (i : ℕ) → m.posted ≡ Some i → i < n
  pub looked : (i : ℕ) → m.posted ≡ None → m.looked ≡ Some i → i < n
  pub handled : (i : ℕ) → m.looked ≡ None → m.handled ≡ Some i → i < n

-- the messages of the lines before one
pub record AreJoined (read : List ReadLine) (n : ℕ) (messages : List Message) : Type 0 where
  pub each : All (IsMessage read) messages
  pub early : All (IsEarly n) messages
  pub few_posts : (i : ℕ) → posts_at i messages ≤ 1
  pub few_looks : (i : ℕ) → looks_at i messages ≤ 1
  pub few_hands : (i : ℕ) → hands_at i messages ≤ 1
  pub posts : (from to i : ℕ) → i < n → IsAt (is_post from to) read i → posts_at i messages ≡ 1
  pub looks : (from to i : ℕ) → i < n → IsAt (is_look from to) read i → looks_at i messages ≡ 1
  pub hands : (to i : ℕ) → i < n → IsAt (is_hand to) read i → hands_at i messages ≡ 1
