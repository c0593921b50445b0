-- What a cell keeps: its state is the node's state in its seat's view, and a message in a slot that it holds is that view's hand.
use Rattle.std.specs.Prelude.{◌≡◌, ◌<◌, ◌+◌, ◌*◌, ℕ, suc, [], ◌∷◌, ◌++◌, ◌||◌, Bool, false, not, cond, nat_eq, length, List, Option, Some, None, is_some}
use lib.ListN.{get_elem?}
use mathlib.Core.Option.{some}
use Rattle.atomic_table.specs.Seated.{TableId}
use Rattle.ipcz_base.specs.declared.message.Message.{Message}
use Rattle.ipcz_node.specs.Node.{Node}
use Rattle.ipcz_node.specs.NodeSets.{has_node}
use Rattle.ipcz_node.specs.declared.node_set.NodeSet.{NodeSet}
use Rattle.ipcz_world.specs.Soundness.{IsSound}
use Rattle.ipcz_rule.specs.declared.view.View.{View}
use Rattle.ipcz_rule.specs.declared.view.Part.{Part}
use Rattle.ipcz_rule.specs.Rule.{has_number}
use Rattle.ipcz_rule.specs.Batches.{Batch, BatchMine, batch_from}
use Rattle.ipcz_cell.specs.TableNames.{TableName}
use Rattle.ipcz_cell.specs.CellStates.{CellState, part_in}

-- each part of a view is of a sound node
abbrev pub AreSound : ℕ → ℕ → View → Type 0
AreSound count size v = (k : ℕ) (p : Part) → get_elem? v.parts k ≡ some p → (p.node < count) × IsSound count size p.node p.state

-- the slots of the mailboxes that were probed, each empty
abbrev pub probed_slots : ℕ → ℕ → List ℕ → List (ℕ × Batch)
probed_slots count node [] = []
probed_slots count node (to ∷ tos) = (node * count + to, []) ∷ probed_slots count node tos

-- the slots of these senders, each with what is left of its batch
abbrev pub batch_slots : ℕ → Part → List ℕ → List (ℕ × Batch)
batch_slots count p [] = []
batch_slots count p (sender ∷ senders) = (sender * count + p.node, batch_from p sender) ∷ batch_slots count p senders

-- the slots that a node holds: of what it has probed, and of these senders
abbrev pub held_slots : ℕ → Part → List ℕ → List (ℕ × Batch)
held_slots count p senders = probed_slots count p.node p.probed ++ batch_slots count p senders

-- whether something is left of the batch of a sender
abbrev pub has_batch : Part → ℕ → Bool
has_batch p sender = not (nat_eq (length (batch_from p sender)) 0)

-- whether the message in hand is of a sender
abbrev pub is_hand_of : Option ℕ → ℕ → Bool
is_hand_of None sender = false
is_hand_of (Some from) sender = nat_eq sender from

-- no number stands twice
abbrev pub AreOnce : List ℕ → Type 0
AreOnce [] = Unit {0}
AreOnce (i ∷ is) = (has_number is i ≡ false) × AreOnce is

-- where a number stands first in a list
abbrev pub place_in : List ℕ → ℕ → ℕ
place_in [] i = 0
place_in (j ∷ js) i = cond (nat_eq i j) 0 (suc (place_in js i))

-- each number is below another
abbrev pub AreBelow : ℕ → List ℕ → Type 0
AreBelow n [] = Unit {0}
AreBelow n (i ∷ is) = (i < n) × AreBelow n is

-- a set has the nodes of a list
abbrev pub IsSetOf : NodeSet → List ℕ → Type 0
IsSetOf s nodes = (n : ℕ) → n < 64 → has_node s n ≡ has_number nodes n

-- its seat is of this table, and has this node's state as its view says
pub record IsSeated (t : TableName) (n : Node) (id : TableId) (me : BatchMine) : Type 0 where
  pub named : id ≡ t.id
  pub whole : me.0.parts ≡ part_in me.0 ∷ []
  pub state : (part_in me.0).state ≡ n
  pub sound : AreSound t.count t.size me.0

-- the seat is the node's, the view has the message in hand and the mailboxes that were probed, and the slots that the seat holds are theirs, and those
-- of the senders whose message is in hand or of whose batch something is left. Nothing is left of a batch where slots aren't used again
pub record IsCell (t : TableName) (n : Node) (hand : Option Message) (tos senders : List ℕ) (id : TableId) (me : BatchMine) : Type 0 where
  pub seated : IsSeated t n id me
  pub message : (part_in me.0).message ≡ hand
  pub probed : (part_in me.0).probed ≡ tos
  pub slots : me.1 ≡ held_slots t.count (part_in me.0) senders
  pub holding : is_some hand ≡ is_some n.hand
  pub below : AreBelow t.count tos
  pub held : (sender : ℕ) → has_number senders sender ≡ (is_hand_of n.hand sender || has_batch (part_in me.0) sender)
  pub within : AreBelow t.count senders
  pub alone : t.reuses ≡ false → (sender : ℕ) → has_batch (part_in me.0) sender ≡ false

-- a cell is that of a node of the table: the node is sound, its part has a message exactly if one is in hand, and each mailbox that was
-- probed is to a node of the table
pub record IsSoundCell (t : TableName) (c : CellState) : Type 0 where
  pub inside : c.part.node < t.count
  pub sound : IsSound t.count t.size c.part.node c.part.state
  pub holding : is_some c.part.message ≡ is_some c.part.state.hand
  pub below : AreBelow t.count c.part.probed
