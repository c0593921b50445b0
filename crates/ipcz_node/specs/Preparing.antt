-- The room that an act of a router wants at its node, told from the outlook of the act.
use Rattle.std.specs.Prelude.{ℕ, ◌≤◌, ◌<◌, ◌+◌, Bool, true, false, not, ◌||◌, nat_eq, if◌then◌else◌, Option, Some, None}
use Rattle.ipcz_base.specs.Limits.{no_number}
use Rattle.ipcz_base.specs.Indexed.{place_at}
use Rattle.ipcz_router.specs.Router.{Router}
use Rattle.ipcz_router.specs.ActEffects.{output_of}
use Rattle.ipcz_router.specs.Outlooks.{outlook_of}
use Rattle.ipcz_router.specs.declared.act.RouterAct.{RouterAct}
use Rattle.ipcz_router.specs.declared.outlook.Outlook.{Outlook}
use Rattle.ipcz_router.specs.declared.outlook.Outlook.TheVariants as outlooks
use Rattle.ipcz_node.specs.declared.act.Act.{Act}
use Rattle.ipcz_node.specs.declared.act.Act.TheVariants.{Close, Router as OfRouter}
use Rattle.ipcz_node.specs.Node.{Node, router_in}
use Rattle.ipcz_node.specs.Acts.{has_mail_for}
use Rattle.ipcz_node.specs.RoomyNodes.{RoomyNode}

-- how many ends are moved by an item with so many of them, to a node
abbrev pub moved_count : Node → ℕ → ℕ → ℕ
moved_count n to ends = if nat_eq to n.number then 0 else ends

-- there is room and there are serials for an item with so many ends, to a node
pub record IsReadyForItem (k : RoomyNode) (to ends : ℕ) : Type 0 where
  pub outbox : 0 < place_at 0 k.room.outboxes to
  pub links : moved_count k.node to ends ≤ k.room.links
  pub moves : moved_count k.node to ends ≤ k.room.moves
  pub event_ends : moved_count k.node to ends ≤ k.room.event_ends
  pub serials : k.node.next_peripheral + moved_count k.node to ends ≤ no_number

-- there is room and there are serials for what an act of this outlook gives
abbrev pub IsReadyAs : RoomyNode → Outlook → Type 0
IsReadyAs k outlooks.Nothing = Unit {0}
IsReadyAs k (outlooks.Item to ends) = IsReadyForItem k to ends
IsReadyAs k (outlooks.Message to) = 0 < place_at 0 k.room.outboxes to
IsReadyAs k (outlooks.Closing ends) = ends ≤ k.room.pending

-- how many serials of peripheral links an act of this outlook takes
abbrev pub serials_as : Node → Outlook → ℕ
serials_as n (outlooks.Item to ends) = moved_count n to ends
serials_as n other = 0

-- the outlook of an act of the router that stands there
abbrev pub outlook_at : Option Router → RouterAct → Outlook
outlook_at None act = outlooks.Nothing
outlook_at (Some r) act = outlook_of (output_of r act)

-- whether what an act of this outlook gives makes something grow. A message or an item grows an outbox in which others wait already, and an
-- item that moves ends the lists of links and of descriptors; ends that are left to be closed grow the list of these. An empty outbox has a
-- place for one
unfoldable pub outlook_grows : Node → Outlook → Bool
outlook_grows n outlooks.Nothing = false
outlook_grows n (outlooks.Item to ends) = has_mail_for n to || not (nat_eq (moved_count n to ends) 0)
outlook_grows n (outlooks.Message to) = has_mail_for n to
outlook_grows n (outlooks.Closing ends) = not (nat_eq ends 0)

-- whether an act makes something grow, and so may want memory; a hand is asked of its message
unfoldable pub act_grows : Node → Act → Bool
act_grows n (OfRouter serial act) = outlook_grows n (outlook_at (router_in n serial) act)
act_grows n (Close end) = true
act_grows n other = false
