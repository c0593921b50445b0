-- The way back from a table to a world: what its steps tell, and what is read of the words and slots.
use Rattle.std.specs.Prelude.{◌≡◌, ◌≢◌, ◌<◌, ◌⊎◌, ◌+◌, ◌*◌, ℕ, Bool, nat_eq, nat_lt, ◌&&◌, if◌then◌else◌, List, [], ◌∷◌, map, slice_index}
use Rattle.std.specs.Prelude.{Option, Some, None, MatchBool}
use mathlib.Core.Option.{some}
use lib.ListN.{get_elem?}
use Rattle.atomic_table.specs.Table.{rest}
use Rattle.ipcz_base.specs.declared.message.Message.{Message}
use Rattle.ipcz_base.specs.declared.refusal.Refusal.{Refusal}
use Rattle.ipcz_base.specs.declared.refusal.Refusal.TheVariants as refusals
use Rattle.ipcz_world.specs.declared.mail.Mail.{Mail}
use Rattle.ipcz_world.specs.declared.mail.Mail.TheVariants as mails
use Rattle.ipcz_rule.specs.declared.view.View.{View}
use Rattle.ipcz_rule.specs.declared.view.Part.{Part}
use Rattle.ipcz_rule.specs.Rule.{saw}
use Rattle.ipcz_rule.specs.Batches.{Batch, batch_from}
use Rattle.ipcz_rule.specs.Steps.{unprobe_part}
use Rattle.ipcz_cell.specs.TableNames.{TableName}
use Rattle.ipcz_cell.specs.CellStates.{CellState, change_part}
use Rattle.ipcz_cell.specs.Outcomes.{Tells}

-- a store 0 at a mailbox that was probed
abbrev pub unprobed : ℕ → Tells
unprobed to m n m' = m' ≡ (change_part (unprobe_part to) m.0, rest m.1)

-- a load of the mailbox word i, whose slot goes home
abbrev pub given_back : ℕ → Tells
given_back i m n m' = m' ≡ (saw i n m.0, rest m.1)

-- a seat has the slot of a sender's batch: a message of it is in hand, or left
abbrev pub HasSlotOf : Part → ℕ → Type 0
HasSlotOf p sender = (p.state.hand ≡ Some sender) ⊎ (batch_from p sender ≢ [])

-- the parts of these cells
abbrev pub parts_of : List CellState → List Part
parts_of cells = map (λ c. c.part) cells

-- whether the cells are those of the nodes from one on up to a number, in their order
abbrev pub is_in_order : ℕ → ℕ → List CellState → Bool
is_in_order count i [] = nat_eq i count
is_in_order count i (c ∷ cells) = nat_eq c.part.node i && (nat_lt i count && is_in_order count (i + 1) cells)

-- a mailbox that is full: of a batch it has the first message
abbrev pub full_of : Batch → Mail
full_of [] = mails.Empty
full_of (m ∷ ms) = mails.Full m

-- a mailbox whose message is in hand
abbrev pub hand_of : Option Message → Mail
hand_of None = mails.Empty
hand_of (Some m) = mails.Hand m

-- a mailbox, from its word, its slot and the message in its receiver's hand
abbrev pub box_of : ℕ → Batch → Option Message → Mail
box_of word slot hand = if nat_eq word 1 then full_of slot else if nat_eq word 2 then hand_of hand else mails.Empty

-- what of the message is left in the receiver's hand
abbrev pub hand_left : ℕ → Option Message → Option Message
hand_left word hand = if nat_eq word 2 then None else hand

-- the words of the mailboxes from one on, the slots and the messages in the nodes' hands come to these mailboxes, of so many nodes
pub record Reads (n first : ℕ) (words : List ℕ) (slots : List Batch) (hands : List (Option Message)) (mail : ℕ → Mail) : Type 0 where
  pub full : (k : ℕ) → k < n * n → slice_index words (first + k) ≡ 1 → (x : Message) × (get_elem? slots k ≡ some (x ∷ [])) ×
      (mail k ≡ mails.Full x)
  pub hand : (from to : ℕ) → from < n → to < n → slice_index words (first + (from * n + to)) ≡ 2 →
      (x : Message) × (get_elem? hands to ≡ some (Some x)) × (mail (from * n + to) ≡ mails.Hand x)
  pub once : (from from' to : ℕ) → from < n → from' < n → to < n → slice_index words (first + (from * n + to)) ≡ 2 →
      slice_index words (first + (from' * n + to)) ≡ 2 → from ≡ from'
  pub empty : (k : ℕ) → k < n * n → slice_index words (first + k) ≢ 1 → slice_index words (first + k) ≢ 2 → mail k ≡ mails.Empty

-- why all cells of a table aren't taken: they aren't those of all nodes in their order; else there was no memory
abbrev pub FinishRefuses : ℕ → List CellState → Refusal → Type 0
FinishRefuses count cells why = why ≡ (if is_in_order count 0 cells then refusals.OutOfMemory else refusals.Stranger)

-- why a table gives no world: its slots are used again, so the words of numbers that were let go are gone; or as above
abbrev pub GivesNoWorld : TableName → List CellState → Refusal → Type 0
GivesNoWorld t cells why = MatchBool t.reuses (why ≡ refusals.NoWord) (FinishRefuses t.count cells why)

-- a view whose part is of no node of the table
abbrev pub outside : ℕ → View → View
outside count v = change_part (λ p. record {
  node = count;
  state = p.state;
  message = p.message;
  probed = p.probed;
  batches = p.batches;
  put = p.put;
  got = p.got;
  gone = p.gone;
  history = p.history;
}) v
