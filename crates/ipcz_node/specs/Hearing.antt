-- What a node does with a message that brings no item, told by the message whole.
use Rattle.std.specs.Prelude.{◌≡◌, ◌≤◌, ◌&&◌, ℕ, Bool, true, false, not, nat_lt, Option, Some, None, IfSome, IfNone, IsSomeAnd}
use Rattle.ipcz_base.specs.declared.link_id.LinkId.TheVariants.{Central}
use Rattle.ipcz_base.specs.declared.message.Message.{Message}
use Rattle.ipcz_base.specs.declared.message.Message.TheVariants as messages
use Rattle.ipcz_router.specs.Router.{Router}
use Rattle.ipcz_router.specs.Hearing.{answer_to, links_brought}
use Rattle.ipcz_node.specs.Hands.{link_asked, side_asked}
use Rattle.ipcz_node.specs.Node.{Node, found, is_named, link_router, router_in}
use Rattle.ipcz_node.specs.RoomyNodes.{RoomyNode}
use Rattle.ipcz_node.specs.Telling.{HasRoomToTell}

-- whether what a message brings to a router is new here: no router has its fresh link, and the node that this leads to is there
unfoldable pub is_news : Node → Router → Message → Bool
is_news n r (messages.BypassPeer link side old target fresh) = nat_lt target n.count && not (is_named n (Central fresh) r.end.side)
is_news n r (messages.AcceptBypass old side fresh length) = not (is_named n (Central fresh) side)
is_news n r other = true

-- whether a message is dropped if no router here has the link that it asks for
unfoldable pub is_dropped : Message → Bool
is_dropped (messages.Flush link side) = true
is_dropped other = false

-- there is room for what a message makes a router take and tell
abbrev pub HasRoomToHear : RoomyNode → Message → Router → Type 0
HasRoomToHear k m r = (links_brought m ≤ k.room.links) × HasRoomToTell k (answer_to r m)

-- the serial is that of the router that has the link which a message asks for; none if no router has it
abbrev pub IsAsked : Node → Message → Option ℕ → Type 0
IsAsked n m serial = IfNone serial (link_router n (link_asked m) (side_asked m) ≡ None) ×
    IfSome serial (λ s. IsSomeAnd (router_in n s) (λ r. link_router n (link_asked m) (side_asked m) ≡ Some (found s r)))
