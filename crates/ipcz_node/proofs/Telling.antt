-- Where what a router takes or tells has room.
use Rattle.std.proofs.Common.{◌≡◌, ◌≤◌, ℕ, Option, Some, None, List, length, subst}
use Rattle.std.specs.Prelude.{IfSome}
use Rattle.ipcz_base.specs.declared.descriptor.Descriptor.{Descriptor}
use Rattle.ipcz_base.specs.declared.item.Item.{Item}
use Rattle.ipcz_base.specs.declared.link_id.LinkId.{LinkId}
use Rattle.ipcz_base.specs.declared.message.Message.TheVariants as messages
use Rattle.ipcz_base.specs.declared.link_end.LinkEnd.{LinkEnd}
use Rattle.ipcz_base.specs.declared.side.Side.{Side}
use Rattle.ipcz_router.specs.Router.{Router}
use Rattle.ipcz_router.specs.Bypass.{stop_message, will_stop_message}
use Rattle.ipcz_node.specs.Node.{Found, link_router}
use Rattle.ipcz_node.specs.RoomyNodes.{RoomyNode}
use Rattle.ipcz_node.specs.Telling.{HasRoomFor, HasRoomForItem, HasRoomToTell, HasRoomToward}

pub room_to_stop : (k : RoomyNode) (r : Router) (e : Option LinkEnd) (old : ℕ) (side : Side) (length : ℕ) → HasRoomToward k e →
    HasRoomToTell k (stop_message r e old side length)
unfolding stop_message
room_to_stop k r None old side length h = tt
room_to_stop k r (Some e) old side length h = h

pub room_to_will_stop : (k : RoomyNode) (e : Option LinkEnd) (in_length : ℕ) → HasRoomToward k e →
    HasRoomToTell k (will_stop_message e in_length)
unfolding will_stop_message
room_to_will_stop k None in_length h = tt
room_to_will_stop k (Some e) in_length h = h

-- the room for an item is that at the router which has its link
pub room_for_item : (k : RoomyNode) (link : LinkId) (side : Side) (number : ℕ) (item : Item) (moves : List Descriptor) (f : Found) →
    link_router k.node link side ≡ Some f → HasRoomFor k (messages.Item link side number item moves) →
    (length moves ≤ k.room.routers) × HasRoomForItem k link side number item f
unfolding HasRoomFor
room_for_item k link side number item moves f here room = (
  room.0,
  subst (λ (o : Option Found). IfSome o (HasRoomForItem k link side number item)) here room.1,
)
