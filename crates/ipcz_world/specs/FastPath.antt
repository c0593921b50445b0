-- A lone parcel that is all that a world has to do.
use Rattle.std.specs.Prelude.{◌≡◌, ◌⊎◌, ◌≤◌, ◌<◌, ℕ, true, false, Some, None, []}
use Rattle.ipcz_base.specs.declared.item.Item.{Item}
use Rattle.ipcz_base.specs.declared.message.Message.{Message}
use Rattle.ipcz_base.specs.declared.message.Message.TheVariants as messages
use Rattle.ipcz_base.specs.declared.link_end.LinkEnd.{LinkEnd}
use Rattle.ipcz_base.specs.Sides.{opposite}
use Rattle.ipcz_seq.specs.Queue.{current_item}
use Rattle.ipcz_router.specs.Router.{Router}
use Rattle.ipcz_router.specs.Lone.{TakesLast}
use Rattle.ipcz_node.specs.Acts.{is_quiet}
use Rattle.ipcz_node.specs.Lone.{SendsNext, SendsOnly}
use Rattle.ipcz_node.specs.Node.{Node, router_in}
use Rattle.ipcz_world.specs.declared.mail.Mail.TheVariants.{Empty, Hand}
use Rattle.ipcz_world.specs.World.{World, node_at, mail_at, way, set_mail, set_node}
use Rattle.ipcz_world.specs.Turns.{is_full}
use Rattle.ipcz_world.specs.Soundness.{HasLengths}

-- each node from one number up to another is quiet
abbrev pub AreQuiet : World → ℕ → ℕ → Type 0
AreQuiet w from to = (n : ℕ) → from ≤ n → n < to → is_quiet (node_at w n) ≡ true

-- one node isn't quiet, and each other is
pub record IsLoneNode (w : World) (n : ℕ) : Type 0 where
  pub here : n < w.count
  pub busy : is_quiet (node_at w n) ≡ false
  pub others : (k : ℕ) → k < w.count → (k ≡ n → ⊥) → is_quiet (node_at w k) ≡ true

-- no mailbox is full and each node but one is quiet, which sends to a node, as Sends says, whose mailbox for it is empty
pub record IsLoneBy (Sends : Node → ℕ → LinkEnd → Type 0) (w : World) (n serial : ℕ) (link : LinkEnd) : Type 0 where
  pub mail : (k : ℕ) → is_full (mail_at w k) ≡ false
  pub here : n < w.count
  pub there : link.other < w.count
  pub others : (k : ℕ) → k < w.count → (k ≡ n → ⊥) → is_quiet (node_at w k) ≡ true
  pub box : mail_at w (way w n link.other) ≡ Empty
  pub sends : Sends (node_at w n) serial link

-- that node has only to send an item without ends
abbrev pub IsLone : World → ℕ → ℕ → LinkEnd → Type 0
IsLone = IsLoneBy SendsOnly

-- it has to send such an item before anything else, whatever it has to do then
abbrev pub IsLoneSender : World → ℕ → ℕ → LinkEnd → Type 0
IsLoneSender = IsLoneBy SendsNext

-- items may pass from one node to another: no mailbox is full, the one between them is empty, and so is the hand that takes them; each node
-- but these two is quiet
pub record IsPassing (w : World) (n to : ℕ) : Type 0 where
  pub lengths : HasLengths w
  pub counts : (k : ℕ) → k < w.count → (node_at w k).count ≡ w.count
  pub mail : (k : ℕ) → is_full (mail_at w k) ≡ false
  pub here : n < w.count
  pub there : to < w.count
  pub others : (k : ℕ) → k < w.count → (k ≡ n → ⊥) → (k ≡ to → ⊥) → is_quiet (node_at w k) ≡ true
  pub box : mail_at w (way w n to) ≡ Empty
  pub hand : (node_at w to).hand ≡ None

-- the message that carries an item without ends over a link
abbrev pub lone_message : LinkEnd → ℕ → Item → Message
lone_message link number item = messages.Item link.link (opposite link.side) number item []

-- the world with a message from one node in the hand of another
abbrev pub with_hand : World → ℕ → ℕ → Message → World
with_hand w from to m = set_mail (set_node w to (record (node_at w to) { hand = Some from })) (way w from to) (Hand m)

-- the router across has taken the item that a router had to send, and rests
pub record HasCome (w v : World) (n serial : ℕ) (link : LinkEnd) : Type 0 where
  pub sender : Router
  pub sends : router_in (node_at w n) serial ≡ Some sender
  pub item : Item
  pub sent : current_item sender.out_queue ≡ Some item
  pub taker : ℕ
  pub before : Router
  pub after : Router
  pub here : router_in (node_at w link.other) taker ≡ Some before
  pub takes : TakesLast before link.link (opposite link.side) sender.out_queue.current item after
  pub there : router_in (node_at v link.other) taker ≡ Some after

-- a lone parcel has come to the router across by six acts, or it is in hand at that router's node
pub record IsCarried (w v : World) (acts : ℕ) : Type 0 where
  pub node : ℕ
  pub serial : ℕ
  pub link : LinkEnd
  pub lone : IsLone w node serial link
  pub came : ((acts ≡ 6) × HasCome w v node serial link) ⊎ ((node_at v link.other).hand ≡ Some node)

-- how many acts a lap within a node takes: none, a rest, or those of an item that is left in hand or handed
abbrev pub IsLap : ℕ → Type 0
IsLap acts = (acts ≡ 0) ⊎ (acts ≡ 1) ⊎ (acts ≡ 3) ⊎ (acts ≡ 4)
