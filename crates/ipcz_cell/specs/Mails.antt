-- The mailboxes of a cell: what the calls on them answer and leave.
use Rattle.std.specs.Prelude.{◌≡◌, ◌≢◌, ◌<◌, ◌+◌, ◌*◌, ℕ, [], ◌∷◌, ◌++◌, Bool, false, nat_lt, if◌then◌else◌, List, Option, Some, None}
use Rattle.std.specs.Prelude.{option_to_list, MatchBool, IfSome, IfErr, Result, Ok, Err, MatchResult}
use Rattle.ipcz_base.specs.declared.message.Message.{Message}
use Rattle.ipcz_base.specs.declared.refusal.Refusal.{Refusal}
use Rattle.ipcz_base.specs.declared.refusal.Refusal.TheVariants.{NumbersEnd, OutOfMemory}
use Rattle.ipcz_word.specs.Layout.{word_of_bits}
use Rattle.ipcz_node.specs.declared.happened.Happened.{Happened}
use Rattle.ipcz_node.specs.Events.{hand_event}
use Rattle.ipcz_node.specs.Hands.{message_lacks_serials}
use Rattle.ipcz_world.specs.Coding.{IsLinkNumber}
use Rattle.ipcz_world.specs.RoomyWorlds.{HasRoomToHandle}
use Rattle.ipcz_rule.specs.Rule.{has_number}
use Rattle.ipcz_rule.specs.declared.view.Part.{Part}
use Rattle.ipcz_rule.specs.Steps.{probe_part, look_part, old_word, trusted, hand_part}
use Rattle.ipcz_rule.specs.Batches.{Batch, batch_from, with_batch}
use Rattle.ipcz_rule.specs.BatchKinds.{batch_post_part}
use Rattle.ipcz_node.specs.Acts.{first_of, rest_of}
use Rattle.ipcz_node.specs.Node.{Node, outbox}
use Rattle.ipcz_cell.specs.Cells.{has_batch}
use Rattle.ipcz_cell.specs.TableNames.{TableName}
use Rattle.ipcz_cell.specs.CellStates.{CellState, roomy}

-- the slot of the mailbox from one node to another
abbrev pub slot_of : TableName → ℕ → ℕ → ℕ
slot_of t from to = from * t.count + to

-- its word
abbrev pub mail_word : TableName → ℕ → ℕ → ℕ
mail_word t from to = t.size + 1 + t.count + slot_of t from to

-- the word of a node's inbox
abbrev pub inbox_word : TableName → ℕ → ℕ
inbox_word t node = t.size + 1 + node

-- a load or an exchange of the word i found n, and nothing else has changed
pub record HasSeen (i n : ℕ) (old new : CellState) : Type 0 where
  pub part : new.part ≡ old.part
  pub room : new.room ≡ old.room
  pub looked : new.looked ≡ old.looked
  pub seen : new.seen ≡ old.seen ++ (i, n) ∷ []

-- the mailbox was taken: it was taken already, or it was found empty
abbrev pub IsProbed : ℕ → ℕ → CellState → CellState → Type 0
IsProbed i to old new = MatchBool (has_number old.part.probed to) ((new.part ≡ old.part) × (new.seen ≡ old.seen))
    ((new.part ≡ probe_part to old.part) × (new.seen ≡ old.seen ++ (i, 0) ∷ []))

-- what a probe answers and leaves: it fails only if the mailbox wasn't taken yet and was found at another value than 0
abbrev pub Probes : ℕ → ℕ → CellState → Bool → CellState → Type 0
Probes i to old answer new = MatchBool answer (IsProbed i to old new) ((has_number old.part.probed to ≡ false) ×
    ((n : ℕ) × (n ≢ 0) × HasSeen i n old new))

-- the word of the old link that the message in hand names, if it is an AcceptBypass
abbrev pub old_named : Option Message → Option ℕ
old_named None = None
old_named (Some x) = old_word x

-- what is loaded before a message is handled: the word of the old link that an AcceptBypass names, if it is one of the table's words
abbrev pub OldLoaded : ℕ → Option ℕ → List (ℕ × ℕ) → Type 0
OldLoaded size None found = found ≡ []
OldLoaded size (Some old) found = MatchBool (nat_lt old size) ((n : ℕ) × IsLinkNumber n × (found ≡ (old, n) ∷ [])) (found ≡ [])

-- the source that such a load tells; without a load none
abbrev pub source_found : List (ℕ × ℕ) → Option ℕ
source_found [] = None
source_found (load ∷ loads) = (word_of_bits load.1).source

-- a source is the one that a message in hand has by the rule, if the old link that the message names has a word of the table
abbrev pub IsKnown : ℕ → ℕ → Message → Option ℕ → Type 0
IsKnown size from x source = IfSome (old_word x) (λ old. old < size) → source ≡ trusted from x

-- the load before the message in hand is handled, and the source that it tells
pub record LoadsSource (size from : ℕ) (old : CellState) (answer : Option ℕ) (new : CellState) : Type 0 where
  pub found : List (ℕ × ℕ)
  pub loaded : OldLoaded size (old_named old.part.message) found
  pub part : new.part ≡ old.part
  pub room : new.room ≡ old.room
  pub seen : new.seen ≡ old.seen ++ found
  pub told : answer ≡ source_found found
  pub known : (x : Message) → old.part.message ≡ Some x → IsKnown size from x answer

-- what handling the message in hand loads, answers and leaves: the source is that of the old link's word, as the load has found it. It isn't
-- refused for want of memory if there was room
pub record Handles (size from : ℕ) (old : CellState) (answer : Result Happened Refusal) (new : CellState) : Type 0 where
  pub message : Message
  pub in_hand : old.part.message ≡ Some message
  pub found : List (ℕ × ℕ)
  pub loaded : OldLoaded size (old_word message) found
  pub seen : new.seen ≡ old.seen ++ found
  pub outcome : MatchResult answer
      (λ event. (event ≡ hand_event old.part.state from message (source_found found)) ×
      (new.part ≡ hand_part from (source_found found) message old.part))
      (λ why. (why ≡ (if message_lacks_serials old.part.state from message (source_found found) then NumbersEnd else OutOfMemory)) ×
      (new.part ≡ old.part))
  pub full : HasRoomToHandle (roomy old) from message (source_found found) → IfErr answer (λ why. why ≢ OutOfMemory)

-- what a call tells of what happened, or why it was refused: Done is what it promises of the event that it tells, and of the refusal
abbrev pub IsTold : {X : Type 0} → (Happened → X → Type 0) → (Result Happened Refusal → Type 0) → Result X Refusal → Type 0
IsTold tells Done (Ok told) = (event : Happened) × tells event told × Done (Ok event)
IsTold tells Done (Err why) = Done (Err why)

-- the part with a message of a sender in hand, and with these of its batch left
abbrev pub looked_part : ℕ → Message → List Message → Part → Part
looked_part from x xs p = look_part from x (with_batch from xs p)

-- a message was taken into the hand: the next of a batch that the seat has, or the first of one, whose mailbox was found full
abbrev pub HasTaken : ℕ → ℕ → CellState → CellState → Type 0
HasTaken i from old new = (x : Message) × (xs : List Message) × (new.part ≡ looked_part from x xs old.part) ×
    MatchBool (has_batch old.part from) ((batch_from old.part from ≡ x ∷ xs) × (new.seen ≡ old.seen)) (new.seen ≡ old.seen ++ (i, 1) ∷ [])

-- what a look answers and leaves: it fails only if nothing is left of a batch, and the mailbox was found at another value than 1
abbrev pub Looks : ℕ → ℕ → CellState → Bool → CellState → Type 0
Looks i from old answer new = MatchBool answer (HasTaken i from old new) ((has_batch old.part from ≡ false) × (n : ℕ) × (n ≢ 1) × HasSeen i n old new)

-- the messages that a post to a node takes: all that wait, or the first alone where slots aren't used again
abbrev pub posted_batch : TableName → ℕ → Node → Batch
posted_batch t to n = if t.reuses then outbox n to else option_to_list (first_of (outbox n to))

-- and those that wait still
abbrev pub posted_rest : TableName → ℕ → Node → List Message
posted_rest t to n = if t.reuses then [] else rest_of (outbox n to)

-- the part after a post
abbrev pub posted_part : TableName → ℕ → Part → Part
posted_part t to p = batch_post_part to (posted_rest t to p.state) p

-- the part after a look at what is left of this batch of a sender
abbrev pub part_looked_on : ℕ → Batch → Part → Part
part_looked_on from [] p = p
part_looked_on from (x ∷ xs) p = looked_part from x xs p

-- the part after a look at what is left of the batch of a sender
abbrev pub looked_on_part : ℕ → Part → Part
looked_on_part from p = part_looked_on from (batch_from p from) p
