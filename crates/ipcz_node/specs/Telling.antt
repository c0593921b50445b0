-- The room that a node wants for a message: for what a router takes, and for what it tells other nodes.
use Rattle.std.specs.Prelude.{◌<◌, ◌≤◌, ◌&&◌, ℕ, Bool, true, false, Option, IfSome, length, nat_eq}
use Rattle.ipcz_base.specs.declared.link_end.LinkEnd.{LinkEnd}
use Rattle.ipcz_base.specs.Indexed.{place_at}
use Rattle.ipcz_base.specs.Items.{ends_in}
use Rattle.ipcz_base.specs.declared.side.Side.{Side}
use Rattle.ipcz_base.specs.declared.item.Item.{Item}
use Rattle.ipcz_base.specs.declared.link_id.LinkId.{LinkId}
use Rattle.ipcz_base.specs.declared.link_id.LinkId.TheVariants.{Central}
use Rattle.ipcz_base.specs.declared.message.Message.{Message}
use Rattle.ipcz_base.specs.declared.message.Message.TheVariants as messages
use Rattle.ipcz_router.specs.declared.sending.Sending.{Sending}
use Rattle.ipcz_router.specs.Router.{inward_edge, outward_has}
use Rattle.ipcz_node.specs.Node.{Found, link_router}
use Rattle.ipcz_node.specs.Rooms.{HasQueueRoom, rooms_for}
use Rattle.ipcz_node.specs.RoomyNodes.{RoomyNode}
use Rattle.ipcz_node.specs.Directories.{ends_brought}

-- there is room for a message, if there is one
abbrev pub HasRoomToTell : RoomyNode → Option Sending → Type 0
HasRoomToTell k sending = IfSome sending (λ s. 0 < place_at 0 k.room.outboxes s.to)

-- there is room for a message toward the node of a link end, if there is one
abbrev pub HasRoomToward : RoomyNode → Option LinkEnd → Type 0
HasRoomToward k end = IfSome end (λ e. 0 < place_at 0 k.room.outboxes e.other)

-- whether a message brings an item without ends and moves
unfoldable pub is_lone : Message → Bool
is_lone (messages.Item link side number item moves) = nat_eq (length moves) 0 && nat_eq (length (ends_in item)) 0
is_lone other = false

-- whether a message brings an item
unfoldable pub brings_item : Message → Bool
brings_item (messages.Item link side number item moves) = true
brings_item other = false

-- there is room for an item over a link to the router that was found: in the queue that it comes into, and to hold the ends that come to wait
abbrev pub HasRoomForItem : RoomyNode → LinkId → Side → ℕ → Item → Found → Type 0
HasRoomForItem k link side number item f =
    HasQueueRoom (rooms_for k.room.in_rooms k.room.out_rooms (outward_has f.router link side)) f.serial ×
    (ends_brought f.router (outward_has f.router link side) number item ≤ k.room.ends)

-- there is room for what a message makes a router take and tell: an item and the terminals of its moves, or a link of a fresh word, and a
-- message
unfoldable pub HasRoomFor : RoomyNode → Message → Type 0
HasRoomFor k (messages.Item link side number item moves) =
    (length moves ≤ k.room.routers) × IfSome (link_router k.node link side) (HasRoomForItem k link side number item)
HasRoomFor k (messages.BypassPeer link side old target fresh) = (0 < k.room.links) × (0 < place_at 0 k.room.outboxes target)
HasRoomFor k (messages.AcceptBypass old side fresh length) =
    (0 < k.room.links) × IfSome (link_router k.node (Central old) side) (λ f. HasRoomToward k f.router.outward.primary)
HasRoomFor k (messages.StopProxying side old in_length out_length) =
    IfSome (link_router k.node (Central old) side) (λ f. HasRoomToward k (inward_edge f.router).decaying)
HasRoomFor k other = Unit {0}
