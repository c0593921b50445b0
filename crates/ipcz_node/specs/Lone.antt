-- A lone parcel at the node that sends it and at the node that takes it.
use Rattle.std.specs.Prelude.{◌≡◌, ◌≤◌, ℕ, true, Option, Some, None, [], length}
use Rattle.std.specs.Ordering.{nat_cmp}
use Rattle.std.specs.FinMap.{FinMap, get}
use Rattle.ipcz_base.specs.declared.side.Side.{Side}
use Rattle.ipcz_base.specs.declared.item.Item.{Item}
use Rattle.ipcz_base.specs.declared.link_id.LinkId.{LinkId}
use Rattle.ipcz_base.specs.declared.link_end.LinkEnd.{LinkEnd}
use Rattle.ipcz_base.specs.Limits.{no_number}
use Rattle.ipcz_router.specs.Router.{Router}
use Rattle.ipcz_router.specs.Lone.{last_link, next_link, TakesLast}
use Rattle.ipcz_router.specs.declared.act.RouterAct.TheVariants as router_acts
use Rattle.ipcz_node.specs.declared.act.Act.TheVariants as acts
use Rattle.ipcz_node.specs.Node.{Node, flagged_router, found, outbox_count, link_router, router_in, with_router}
use Rattle.ipcz_node.specs.Acts.{are_empty, close_turn, router_turn}

-- the router of the serial is flagged, and each other that is flagged has a serial that goes with it; the router tells the link that it sends over
pub record IsSender (told : Router → Option LinkEnd) (GoesWith : ℕ → ℕ → Type 0) (routers : FinMap nat_cmp Router) (serial : ℕ)
    (link : LinkEnd) : Type 0 where
  pub router : Router
  pub here : get routers serial ≡ Some router
  pub flagged : router.flagged ≡ true
  pub others : (s : ℕ) (r : Router) → get routers s ≡ Some r → r.flagged ≡ true → GoesWith s serial
  pub sends : told router ≡ Some link

-- of the routers, only that of the serial is flagged, and it has only to send its last item over a link
abbrev pub IsOnlySender : FinMap nat_cmp Router → ℕ → LinkEnd → Type 0
IsOnlySender = IsSender last_link (λ s serial. s ≡ serial)

-- of the routers that are flagged, that of the serial is the first, and it sends an item without ends over a link next
abbrev pub IsFirstSender : FinMap nat_cmp Router → ℕ → LinkEnd → Type 0
IsFirstSender = IsSender next_link (λ s serial. serial ≤ s)

-- a node has nothing to post and to close and no message in hand, and such a router
pub record Sends (IsOne : FinMap nat_cmp Router → ℕ → LinkEnd → Type 0) (x : Node) (serial : ℕ) (link : LinkEnd) : Type 0 where
  pub outboxes : are_empty x.outboxes ≡ true
  pub each : length x.outboxes ≡ outbox_count
  pub pending : x.pending ≡ []
  pub hand : x.hand ≡ None
  pub sender : IsOne x.routers serial link

-- all that the node has to do is to send its last item
abbrev pub SendsOnly : Node → ℕ → LinkEnd → Type 0
SendsOnly = Sends IsOnlySender

-- what the node does next, if no mailbox to it is full, is to send an item
abbrev pub SendsNext : Node → ℕ → LinkEnd → Type 0
SendsNext = Sends IsFirstSender

-- the router of the serial rests next, if no mailbox to its node is full
pub record RestsNext (x : Node) (serial : ℕ) : Type 0 where
  pub outboxes : are_empty x.outboxes ≡ true
  pub hand : x.hand ≡ None
  pub first : close_turn x.pending (router_turn (flagged_router x)) ≡ acts.Router serial router_acts.Rest

-- the router that has a link at a side takes an item of a number as the last thing that it has to do, and nothing else changes
pub record TakesItem (x : Node) (link : LinkId) (side : Side) (n : ℕ) (item : Item) (y : Node) : Type 0 where
  pub serial : ℕ
  pub router : Router
  pub after : Router
  pub here : router_in x serial ≡ Some router
  pub first : link_router x link side ≡ Some (found serial router)
  pub takes : TakesLast router link side n item after
  pub changed : y ≡ with_router x serial after
  pub serials : x.next_router ≤ no_number
  pub links : x.next_peripheral ≤ no_number
