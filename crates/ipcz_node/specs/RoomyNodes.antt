-- The node with the room that it has made.
use Rattle.std.specs.Prelude.{◌≡◌, ℕ, ◌≤◌, ◌<◌, ◌+◌, Bool, true, length, Option, Some, None, List, [], ◌∷◌, IfSome, IsSomeAnd}
use Rattle.std.specs.Prelude.{if◌then◌else◌, nat_eq}
use Rattle.std.specs.Ordering.{nat_cmp}
use Rattle.std.specs.FinMap.{FinMap, get}
use Rattle.ipcz_base.specs.Limits.{last_number, no_number}
use Rattle.ipcz_base.specs.Indexed.{place_at}
use Rattle.ipcz_base.specs.Totals.{total_list}
use Rattle.ipcz_base.specs.Items.{ends_in}
use Rattle.ipcz_router.specs.declared.act.Applied.{Applied}
use Rattle.ipcz_router.specs.declared.act.Applied.TheVariants as outputs
use Rattle.ipcz_base.specs.declared.descriptor.Descriptor.{Descriptor}
use Rattle.ipcz_base.specs.declared.message.Message.{Message}
use Rattle.ipcz_router.specs.ActTable.{may_take}
use Rattle.ipcz_router.specs.ActEffects.{output_of}
use Rattle.ipcz_node.specs.declared.act.Act.{Act}
use Rattle.ipcz_node.specs.declared.act.Act.TheVariants as acts
use Rattle.ipcz_node.specs.Node.{Node, EndSet, router_in, terminal_of}
use Rattle.ipcz_node.specs.Acts.{first_of, has_mail_for}
use Rattle.ipcz_node.specs.Events.{moved_by}
use Rattle.ipcz_node.specs.Sends.{Transfer, moved_ends}
use Rattle.ipcz_node.specs.Rooms.{HasQueueRoom}
use Rattle.ipcz_base.specs.declared.end.End.{End}

-- the room that a node has made
pub record NodeRoom : Type 0 where
  -- how many messages more each outbox takes
  pub outboxes : List ℕ
  -- how many routers and links of others the directory takes
  pub routers : ℕ
  pub links : ℕ
  -- how many items more the out queue and the in queue of each router take
  pub out_rooms : FinMap nat_cmp ℕ
  pub in_rooms : FinMap nat_cmp ℕ
  -- how many ends more may come to wait in the in queues
  pub ends : ℕ
  -- how many descriptors are at hand
  pub moves : ℕ
  -- how many ends more can be left to be closed, and how many messages more be kept as strays
  pub pending : ℕ
  pub strays : ℕ
  -- how many ends an event can tell
  pub event_ends : ℕ

pub record RoomyNode : Type 0 where
  pub node : Node
  pub room : NodeRoom

-- messages by destination, and the room for more of each
pub record OutboxesValue : Type 0 where
  pub messages : List (List Message)
  pub room : List ℕ

-- one for an outbox in which messages wait, and none for an empty one
abbrev pub one_with_mail : List Message → ℕ
one_with_mail box = if nat_eq (length box) 0 then 0 else 1

-- in how many outboxes messages wait
abbrev pub boxes_with_mail : List (List Message) → ℕ
boxes_with_mail boxes = total_list one_with_mail boxes

-- the messages for one destination, and the room for more
pub record OutboxValue : Type 0 where
  pub messages : List Message
  pub room : ℕ

-- the room of an outbox's first place: for one message, if it has none and was made ready
unfoldable pub first_room : Option Message → Bool → ℕ
first_room None ready = if ready then 1 else 0
first_room (Some m) ready = 0

-- a set of ends, and the room for more
pub record RoomyEnds : Type 0 where
  pub ends : EndSet
  pub room : ℕ

-- no room is given up: what there was room for there is room for still. The ends of routers that room is made for may come out of the room
-- for ends that come with items, which isn't told of here
pub record RoomIsKept (was is : NodeRoom) : Type 0 where
  pub outboxes : (to : ℕ) → place_at 0 was.outboxes to ≤ place_at 0 is.outboxes to
  pub routers : was.routers ≤ is.routers
  pub links : was.links ≤ is.links
  pub out_rooms : (serial : ℕ) → HasQueueRoom was.out_rooms serial → HasQueueRoom is.out_rooms serial
  pub in_rooms : (serial : ℕ) → HasQueueRoom was.in_rooms serial → HasQueueRoom is.in_rooms serial
  pub moves : was.moves ≤ is.moves
  pub pending : was.pending ≤ is.pending
  pub strays : was.strays ≤ is.strays
  pub event_ends : was.event_ends ≤ is.event_ends

-- a node with descriptors that are to travel
abbrev pub transfer : Node → List Descriptor → Transfer
transfer n moves = record { node = n; moves = moves }

-- the numbers that terminals made of these descriptors begin to put at are numbers of items
abbrev pub AreLow : List Descriptor → Type 0
AreLow [] = Unit {0}
AreLow (d ∷ ds) = (d.next_out ≤ last_number) × AreLow ds

-- a node has the room and the serials for what an act of a router gives it
abbrev pub IsReady : RoomyNode → Applied → Type 0
IsReady k outputs.Nothing = Unit {0}
IsReady k (outputs.Sent link n item) =
    (0 < place_at 0 k.room.outboxes link.other) × (length (moved_ends k.node link item) ≤ k.room.links) ×
    (length (moved_ends k.node link item) ≤ k.room.moves)
    × (k.node.next_peripheral + length (moved_ends k.node link item) ≤ no_number)
IsReady k (outputs.Message to m) = 0 < place_at 0 k.room.outboxes to
IsReady k (outputs.Discarded n item) = length (ends_in item) ≤ k.room.pending

-- a node has room to tell what an act of a router gave it
abbrev pub CanTell : RoomyNode → Applied → Type 0
CanTell k a = length (moved_by k.node a) ≤ k.room.event_ends

-- a node is ready for an act: what a router gives has room, and so has the mark of a close
abbrev pub IsReadyFor : RoomyNode → Act → Type 0
IsReadyFor k (acts.Router serial act) = IfSome (router_in k.node serial) (λ r. IsReady k (output_of r act) × CanTell k (output_of r act))
IsReadyFor k (acts.Close end) = IfSome (terminal_of k.node end) (λ f. IsSomeAnd (get k.room.out_rooms f.serial) (λ room. 0 < room))
IsReadyFor k other = Unit {0}

-- an act can be done: what is to be handled is in hand, the hand is empty for a look, mail waits for the node that is posted to, the end
-- that is to be closed is the first pending one, and a router that is to act is there and may take the act
abbrev pub IsPossibleAct : Node → Act → Type 0
IsPossibleAct n (acts.Hand sender) = n.hand ≡ Some sender
IsPossibleAct n (acts.Look sender) = n.hand ≡ None
IsPossibleAct n (acts.Post to) = has_mail_for n to ≡ true
IsPossibleAct n (acts.Close end) = first_of n.pending ≡ Some end
IsPossibleAct n (acts.Router serial act) = IsSomeAnd (router_in n serial) (λ r. may_take r act ≡ true)
IsPossibleAct n acts.Idle = Unit {0}

-- a node has the room and the serials for a pair
abbrev pub CanOpen : RoomyNode → Type 0
CanOpen k = (2 ≤ k.room.routers) × (k.node.next_router + 2 ≤ no_number)

-- the terminal of an end, if there is one, takes an item more without memory
abbrev pub TakesMore : RoomyNode → End → Type 0
TakesMore k at = IfSome (terminal_of k.node at) (λ f. HasQueueRoom k.room.out_rooms f.serial)
