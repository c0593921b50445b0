-- Which post, which look and which hand are of one message.
use Rattle.std.specs.Prelude.{ℕ, Bool, true, false, ◌≡◌, ◌+◌, ◌<◌, ◌==◌, if◌then◌else◌, ◌&&◌, ◌||◌, ◌⊎◌, List, length, Option, Some, None}
use Rattle.std.specs.List.{AllWithin, HoldsAt, sum_by}
use Rattle.std.specs.Option.{IfSome, IfNone}
use Rattle.ipcz_lines.specs.declared.line.Line.{Line}
use Rattle.ipcz_lines.specs.declared.line.Line.TheVariants as lines
use Rattle.ipcz_lines.specs.declared.line.Event.TheVariants as events
use Rattle.ipcz_lines.specs.declared.line.ReadLine.{ReadLine}
use Rattle.ipcz_messages.specs.declared.messages.Message.{Message}

-- a post from one node to another
abbrev pub is_post : ℕ → ℕ → Line → Bool
is_post from to (lines.Turn node (events.Post destination)) = (node == from) && (destination == to)
is_post from to other = false

-- a look of one node at the mailbox from another
abbrev pub is_look : ℕ → ℕ → Line → Bool
is_look from to (lines.Turn node (events.Look sender)) = (sender == from) && (node == to)
is_look from to other = false

-- a look of a node at any mailbox
abbrev pub is_any_look : ℕ → Line → Bool
is_any_look to (lines.Turn node (events.Look sender)) = node == to
is_any_look to other = false

-- a hand of a node
abbrev pub is_hand : ℕ → Line → Bool
is_hand to (lines.Turn node (events.Hand kind link unfit)) = node == to
is_hand to other = false

abbrev pub is_settle : Line → Bool
is_settle lines.Settled = true
is_settle lines.Unsettled = true
is_settle other = false

-- what changes the mailbox between two nodes, or hides what does
abbrev pub touches_mailbox : ℕ → ℕ → Line → Bool
touches_mailbox from to line = is_settle line || (is_post from to line || is_look from to line)

-- what changes what a node has in hand, or hides what does
abbrev pub touches_hand : ℕ → Line → Bool
touches_hand to line = is_settle line || (is_any_look to line || is_hand to line)

-- such a line stands there
pub record IsAt (test : Line → Bool) (read : List ReadLine) (i : ℕ) : Type 0 where
  pub within : i < length read
  pub holds : HoldsAt (λ x. test x.line ≡ true) read i

-- the next such line behind another
pub record IsNext (test : Line → Bool) (read : List ReadLine) (i j : ℕ) : Type 0 where
  pub behind : i < j
  pub at : IsAt test read j
  pub first : AllWithin (λ x. test x.line ≡ false) read (i + 1) j

-- a look takes the message that a post put, if nothing touched the mailbox between
pub record Takes (read : List ReadLine) (from to i j : ℕ) : Type 0 where
  pub post : IsAt (is_post from to) read i
  pub look : IsAt (is_look from to) read j
  pub next : IsNext (touches_mailbox from to) read i j

-- a hand is of what a look took, if nothing touched the node's hand between
pub record Handles (read : List ReadLine) (to j k : ℕ) : Type 0 where
  pub look : IsAt (is_any_look to) read j
  pub hand : IsAt (is_hand to) read k
  pub next : IsNext (touches_hand to) read j k

-- the look that takes a post's message, if there is one
abbrev pub IsLookOf : List ReadLine → ℕ → ℕ → ℕ → Option ℕ → Type 0
IsLookOf read from to i (Some j) = Takes read from to i j
IsLookOf read from to i None = (j : ℕ) → Takes read from to i j → ⊥

-- the hand of what a look took, if there is one
abbrev pub IsHandOf : List ReadLine → ℕ → ℕ → Option ℕ → Type 0
IsHandOf read to j (Some k) = Handles read to j k
IsHandOf read to j None = (k : ℕ) → Handles read to j k → ⊥

-- a message that was posted at a line, with its look and its hand
pub record IsPosted (read : List ReadLine) (from to i : ℕ) (m : Message) : Type 0 where
  pub from_is : m.from ≡ Some from
  pub to_is : m.to ≡ to
  pub posted : m.posted ≡ Some i
  pub post : IsAt (is_post from to) read i
  pub look : IsLookOf read from to i m.looked
  pub hand : IfSome m.looked (λ j. IsHandOf read to j m.handled)
  pub unseen : IfNone m.looked (m.handled ≡ None)

-- a message that came into sight at a look, with its hand
pub record IsLooked (read : List ReadLine) (from to j : ℕ) (m : Message) : Type 0 where
  pub from_is : m.from ≡ Some from
  pub to_is : m.to ≡ to
  pub posted : m.posted ≡ None
  pub looked : m.looked ≡ Some j
  pub look : IsAt (is_look from to) read j
  pub hand : IsHandOf read to j m.handled

-- a message that came into sight at a hand
pub record IsHanded (read : List ReadLine) (to k : ℕ) (m : Message) : Type 0 where
  pub from_is : m.from ≡ None
  pub to_is : m.to ≡ to
  pub posted : m.posted ≡ None
  pub looked : m.looked ≡ None
  pub handled : m.handled ≡ Some k
  pub hand : IsAt (is_hand to) read k

-- a message is known from a post on, or from a look on, or only from a hand
abbrev pub IsMessage : List ReadLine → Message → Type 0
IsMessage read m =
    ((from : ℕ) × (to : ℕ) × (i : ℕ) × IsPosted read from to i m)
    ⊎ (((from : ℕ) × (to : ℕ) × (j : ℕ) × IsLooked read from to j m) ⊎ ((to : ℕ) × (k : ℕ) × IsHanded read to k m))

-- what is known of a message's way through mailbox and hand stays as it was
pub record KeepsWay (old new : Message) : Type 0 where
  pub from_kept : new.from ≡ old.from
  pub to_kept : new.to ≡ old.to
  pub posted_kept : new.posted ≡ old.posted
  pub looked_kept : new.looked ≡ old.looked
  pub handled_kept : new.handled ≡ old.handled

-- one for the line itself, and none for another line or for none
abbrev pub times : ℕ → Option ℕ → ℕ
times i None = 0
times i (Some j) = if i == j then 1 else 0

-- how many of the messages were posted at a line, looked at there, and handed over there
abbrev pub posts_at : ℕ → List Message → ℕ
posts_at i messages = sum_by (λ m. times i m.posted) messages

abbrev pub looks_at : ℕ → List Message → ℕ
looks_at i messages = sum_by (λ m. times i m.looked) messages

abbrev pub hands_at : ℕ → List Message → ℕ
hands_at i messages = sum_by (λ m. times i m.handled) messages

-- each post, each look and each hand is of one message, and of no other
pub record AreOnce (read : List ReadLine) (messages : List Message) : Type 0 where
  pub posts : (from to i : ℕ) → IsAt (is_post from to) read i → posts_at i messages ≡ 1
  pub looks : (from to i : ℕ) → IsAt (is_look from to) read i → looks_at i messages ≡ 1
  pub hands : (to i : ℕ) → IsAt (is_hand to) read i → hands_at i messages ≡ 1
