-- The rank of a world: a number that each act of a node makes smaller, so that a world that takes no calls becomes quiet.
-- (This project's own: ipcz promises nothing of when its routers come to rest.)
use Rattle.std.specs.Prelude.{◌≡◌, ◌≤◌, ◌<◌, ℕ, zero, suc, ◌+◌, ◌*◌, ◌-◌, Bool, true, false, not, cond, ◌&&◌, Option, Some, None, is_some}
use Rattle.std.specs.Prelude.{is_none, List, [], ◌∷◌, length, slice_get}
use Rattle.ipcz_base.specs.declared.end.End.{End}
use Rattle.ipcz_base.specs.declared.descriptor.Descriptor.{Descriptor}
use Rattle.ipcz_base.specs.declared.item.Item.{Item}
use Rattle.ipcz_base.specs.declared.message.Message.{Message}
use Rattle.ipcz_base.specs.declared.message.Message.TheVariants as messages
use Rattle.ipcz_base.specs.Ends.{opposite_end}
use Rattle.ipcz_base.specs.Items.{ends_in}
use Rattle.ipcz_base.specs.Totals.{total, total_list}
use Rattle.ipcz_edge.specs.Edge.{edge_decays}
use Rattle.ipcz_router.specs.Router.{Router, is_proxy, is_terminal, is_on_central, inward_edge}
use Rattle.ipcz_router.specs.declared.act.RouterAct.{RouterAct}
use Rattle.ipcz_router.specs.declared.act.RouterAct.TheVariants as acts
use Rattle.ipcz_node.specs.declared.act.Act.{Act}
use Rattle.ipcz_node.specs.declared.act.Act.TheVariants.{Router as OfRouter, Idle}
use Rattle.ipcz_node.specs.Node.{Node}
use Rattle.ipcz_world.specs.declared.mail.Mail.{Mail}
use Rattle.ipcz_world.specs.declared.mail.Mail.TheVariants as mails
use Rattle.ipcz_world.specs.World.{World}
use Rattle.ipcz_world.specs.Books.{Books, read, is_closed, is_retired, after_turn, advance}
use Rattle.ipcz_world.specs.Routes.{Routes, routes_after_turn}
use Rattle.ipcz_world.specs.declared.step.Step.TheVariants.{Turn}
use Rattle.ipcz_world.specs.declared.step.Reply.{Reply}
use Rattle.ipcz_world.specs.Steps.{StepAny}
use Rattle.ipcz_world.specs.Settling.{IsQuiet}
use Rattle.ipcz_world.specs.Turns.{router_of, can_take, after_act, turn_event, turn_lacks_serials}
use Rattle.ipcz_world.specs.Lawful.{Lawful}

-- what the numbers of items are worth while no caller puts: how many items each end can ever have, its mark and Gone with them, and by pair
-- what one number that an item of it passes at a router is worth
pub record Rates : Type 0 where
  pub cap : End → ℕ
  pub price : ℕ → ℕ

-- what a test is worth
abbrev pub worth : ℕ → Bool → ℕ
worth n test = cond test n 0

-- the worth of a message that was sent but not yet posted, of one in a mailbox, and of one in hand, above what its handling is worth
abbrev pub unposted : ℕ
unposted = 2

abbrev pub unlooked : ℕ
unlooked = 1

-- what the numbers are worth that have still to pass a router of an end, whose queues have come to these
abbrev pub worth_left : Rates → End → ℕ → ℕ → ℕ
worth_left c end next_out next_in = c.price end.pair * ((c.cap end - next_out) + (c.cap (opposite_end end) - next_in))

-- whether a proxy hasn't begun its bypass: it has still an outward primary link
abbrev pub is_unbegun : Router → Bool
is_unbegun r = is_proxy r && is_some r.outward.primary

-- what an act of its own bypass is worth that a proxy has still to take: to claim a word, to lock, a failed try, to begin
abbrev pub bypass_worth : Router → ℕ
bypass_worth r = 41 + (worth 1 (is_none r.spare && not r.dry) + (worth 1 (not r.holds) + worth 1 (not r.tried)))

-- what a terminal's lock is worth, for when it is a sink that is done: to lock, a failed try
abbrev pub sink_worth : Router → ℕ
sink_worth r = worth 1 (not r.holds) + worth 1 (not (r.tried && r.closed))

-- the worth of a router: its numbers, its flag, its links that decay, its leaving, its bypass, its lock as a terminal, its side that isn't
-- marked, a wake
unfoldable pub router_worth : Rates → Router → ℕ
router_worth c r =
    worth_left c r.end r.out_queue.current r.in_queue.current +
    (worth 1 r.flagged + (worth 1 (edge_decays r.outward) + (worth 1 (edge_decays (inward_edge r)) +
    (worth 1 (is_proxy r) + (cond (is_unbegun r) (bypass_worth r) 0 + (cond (is_terminal r) (sink_worth r) 0 +
    (worth 7 (is_on_central r && not r.marked) + worth 6 r.wake_owed)))))))

-- the worth of the routers that descriptors will make
abbrev pub moves_worth : Rates → List Descriptor → ℕ
moves_worth c ds = total_list (λ d. 9 + worth_left c d.end d.next_out d.next_in) ds

-- the worth of a message in hand
unfoldable pub message_worth : Rates → Message → ℕ
message_worth c (messages.Item link side n item moves) = 3 + moves_worth c moves
message_worth c (messages.BypassPeer link side old target fresh) = 36
message_worth c (messages.AcceptBypass old side fresh length) = 22
message_worth c (messages.StopProxying side old in_length out_length) = 8
message_worth c (messages.ProxyWillStop link side in_length) = 3
message_worth c (messages.Flush link side) = 3

-- the worth of the messages of an outbox
abbrev pub box_worth : Rates → List Message → ℕ
box_worth c box = total_list (λ m. message_worth c m + unposted) box

-- the worth of a node: its routers, its outboxes, its pending closes
unfoldable pub node_worth : Rates → Node → ℕ
node_worth c n = total (λ serial r. router_worth c r) n.routers + (total_list (box_worth c) n.outboxes + 3 * length n.pending)

-- the worth of a mailbox
unfoldable pub mail_worth : Rates → Mail → ℕ
mail_worth c mails.Empty = 0
mail_worth c (mails.Full m) = message_worth c m + unlooked
mail_worth c (mails.Hand m) = message_worth c m

-- the rank of a world
unfoldable pub rank : Rates → World → ℕ
rank c w = total_list (node_worth c) w.nodes + total_list (mail_worth c) w.mail

-- what the moves of these ends are worth: each makes a proxy and a terminal that its numbers have still to pass
abbrev pub moving_worth : Rates → List End → ℕ
moving_worth c ends = total_list (λ e. 55 + c.price e.pair * (c.cap e + c.cap (opposite_end e))) ends

-- how many items an end may put without a call: its mark if it isn't closed, and Gone if it hasn't retired
abbrev pub may_put : Books → End → ℕ
may_put b e = worth 1 (not (is_closed b e)) + worth 1 (not (is_retired b e))

-- the rates fit the books: the number of each item that wasn't read is below its end's cap, and while no sink of the pair has retired the cap
-- leaves room for what the end has put, and for its mark and Gone; and a pair's price pays for the sending of an item, and, for each of its
-- items that wasn't read, for the moves of the ends that travel with it
pub record IsRated (c : Rates) (b : Books) : Type 0 where
  pub capped : (e : End) (n : ℕ) (item : Item) → read b (opposite_end e) ≤ n → slice_get (b.put e) n ≡ Some item → n < c.cap e
  pub room : (e : End) → is_retired b e ≡ false → is_retired b (opposite_end e) ≡ false → length (b.put e) + may_put b e ≤ c.cap e
  pub least : (pair : ℕ) → 6 ≤ c.price pair
  pub pays : (e : End) (n : ℕ) (item : Item) → read b (opposite_end e) ≤ n → slice_get (b.put e) n ≡ Some item →
      6 + moving_worth c (ends_in item) ≤ c.price e.pair

-- whether an act of a router uses something up: an unlock gives the lock back, and a rest of a router that isn't flagged does nothing
unfoldable pub spends : Router → RouterAct → Bool
spends r acts.Unlock = false
spends r acts.Rest = r.flagged
spends r other = true

-- whether the router that stands there uses something up by an act
unfoldable pub spends_at : Option Router → RouterAct → Bool
spends_at None act = false
spends_at (Some r) act = spends r act

-- whether an act of a node uses something up: all do but idle, an unlock, and the rest of a router that isn't flagged
unfoldable pub uses_up : World → ℕ → Act → Bool
uses_up w n (OfRouter serial act) = spends_at (router_of w n serial) act
uses_up w n Idle = false
uses_up w n other = true

-- law: each possible act of a node that uses something up lowers the rank
abbrev pub ActsLowerTheRank : Type 0
ActsLowerTheRank =
    (w : World) (b : Books) (g : Routes) (c : Rates) (n : ℕ) (act : Act) → Lawful w b g → IsRated c b → n < w.count →
    can_take w n act ≡ true → uses_up w n act ≡ true → rank c (after_act w n act) < rank c w

-- law: a turn keeps rates that fit
abbrev pub TurnsKeepRates : Type 0
TurnsKeepRates =
    (w v : World) (b : Books) (g : Routes) (c : Rates) (n : ℕ) (reply : Reply) → Lawful w b g → IsRated c b → StepAny w (Turn n) reply v →
    IsRated c (advance w b (Turn n) reply)

-- whether an act is an unlock
unfoldable pub is_unlock : Act → Bool
is_unlock (OfRouter serial acts.Unlock) = true
is_unlock other = false

-- a node takes an act in its turn: it may, and has the serials
pub record IsTaken (w : World) (n : ℕ) (act : Act) : Type 0 where
  pub node : n < w.count
  pub may : can_take w n act ≡ true
  pub serials : turn_lacks_serials w n act ≡ false

-- only turns, each by a possible act of a node, in whatever order
abbrev pub AreTurns : World → Books → Routes → List (ℕ × Act) → World → Books → Routes → Type 0
AreTurns w b g [] v d h = (v ≡ w) × (d ≡ b) × (h ≡ g)
AreTurns w b g (t ∷ ts) v d h =
    IsTaken w t.0 t.1 ×
    AreTurns (after_act w t.0 t.1) (after_turn w b t.0 (turn_event w t.0 t.1)) (routes_after_turn w g t.0 (turn_event w t.0 t.1)) ts v d h

-- how many of the turns use something up
abbrev pub times_used : World → List (ℕ × Act) → ℕ
times_used w [] = 0
times_used w (t ∷ ts) = worth 1 (uses_up w t.0 t.1) + times_used (after_act w t.0 t.1) ts

-- how many are unlocks: begins and retires that found no memory
abbrev pub unlock_count : List (ℕ × Act) → ℕ
unlock_count [] = 0
unlock_count (t ∷ ts) = worth 1 (is_unlock t.1) + unlock_count ts

-- law: while no caller calls, whatever possible acts the nodes take in whatever order, no more of them use something up than the rank at
-- the start, and two for each unlock
abbrev pub TurnsAreBounded : Type 0
TurnsAreBounded =
    (w v : World) (b d : Books) (g h : Routes) (c : Rates) (turns : List (ℕ × Act)) → Lawful w b g → IsRated c b →
    AreTurns w b g turns v d h → times_used w turns + rank c v ≤ rank c w + 2 * unlock_count turns

-- law: if no node has an act that uses something up, the world is quiet
abbrev pub UnusedIsQuiet : Type 0
UnusedIsQuiet =
    (w : World) (b : Books) (g : Routes) → Lawful w b g →
    ((n : ℕ) (act : Act) → n < w.count → can_take w n act ≡ true → uses_up w n act ≡ false) → IsQuiet w

-- the parcels that weren't read carry ends in an order of their pairs: each end that travels with an item is of a pair of a higher level;
-- each end has put at least two items fewer than `most`, and no item carries more ends
pub record AreOrdered (level : ℕ → ℕ) (depth most : ℕ) (b : Books) : Type 0 where
  pub within : (pair : ℕ) → level pair ≤ depth
  pub puts : (e : End) → length (b.put e) + 2 ≤ most
  pub ends : (e : End) (n : ℕ) (item : Item) → read b (opposite_end e) ≤ n → slice_get (b.put e) n ≡ Some item →
      length (ends_in item) ≤ most
  pub higher : (e : End) (n i : ℕ) (item : Item) (d : End) → read b (opposite_end e) ≤ n → slice_get (b.put e) n ≡ Some item →
      slice_get (ends_in item) i ≡ Some d → level e.pair < level d.pair

-- the price of a pair with so many levels above it
abbrev pub price_below : ℕ → ℕ → ℕ
price_below most zero = 6
price_below most (suc k) = 6 + most * (55 + price_below most k * (most + most))

-- the rates of such an order
abbrev pub ordered_rates : (ℕ → ℕ) → ℕ → ℕ → Rates
ordered_rates level depth most = record { cap = λ e. most; price = λ pair. price_below most (depth - level pair) }

-- law: they fit the books
abbrev pub OrderedAreRated : Type 0
OrderedAreRated =
    (level : ℕ → ℕ) (depth most : ℕ) (b : Books) → AreOrdered level depth most b → IsRated (ordered_rates level depth most) b
