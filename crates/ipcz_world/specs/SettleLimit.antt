-- A limit that is enough for a settle if no item that wasn't read carries an end: by routers, the numbers that have still to pass them,
-- messages and pending closes.
use Rattle.std.specs.Prelude.{◌≤◌, ◌<◌, ℕ, ◌+◌, ◌*◌, ◌-◌, Bool, false, ◌&&◌, ◌||◌, is_some, cond, nat_lt, if◌then◌else◌, Option, Some, None, List, [], ◌∷◌, length}
use Rattle.std.specs.FinMap.{entries}
use Rattle.ipcz_base.specs.declared.end.End.{End}
use Rattle.ipcz_base.specs.declared.item.Item.{Item}
use Rattle.ipcz_base.specs.declared.message.Message.{Message}
use Rattle.ipcz_base.specs.declared.message.Message.TheVariants as messages
use Rattle.ipcz_base.specs.Ends.{opposite_end, same_end}
use Rattle.ipcz_base.specs.Items.{is_gone_item}
use Rattle.ipcz_base.specs.Totals.{total, total_list}
use Rattle.ipcz_router.specs.Router.{Router, is_terminal}
use Rattle.ipcz_router.specs.Calls.{next_number}
use Rattle.ipcz_base.specs.Limits.{no_number}
use Rattle.ipcz_seq.specs.Queue.{Queue}
use Rattle.ipcz_seq.specs.Last.{last_of}
use Rattle.ipcz_node.specs.Node.{Node, find_router}
use Rattle.ipcz_world.specs.declared.mail.Mail.{Mail}
use Rattle.ipcz_world.specs.declared.mail.Mail.TheVariants as mails
use Rattle.ipcz_world.specs.declared.step.Settled.TheVariants as ends
use Rattle.ipcz_world.specs.World.{World}
use Rattle.ipcz_world.specs.Books.{Books}
use Rattle.ipcz_world.specs.Routes.{Routes}
use Rattle.ipcz_world.specs.Turns.{is_clear}
use Rattle.ipcz_world.specs.Settling.{IsSettle}
use Rattle.ipcz_world.specs.Lawful.{Lawful}
use Rattle.ipcz_world.specs.SettleBounds.{CarryNone, plain_limit, unlocks_taken}

-- the higher of two numbers
abbrev pub higher : ℕ → ℕ → ℕ
higher a b = if nat_lt a b then b else a

-- how many items an end has put, as its terminal among these routers tells; none if it isn't among them
abbrev pub put_among : End → List (ℕ × Router) → ℕ
put_among e [] = 0
put_among e (x ∷ xs) = higher (cond (is_terminal x.1 && same_end x.1.end e) (next_number x.1) 0) (put_among e xs)

-- the same among the routers of these nodes
abbrev pub put_within : End → List Node → ℕ
put_within e [] = 0
put_within e (n ∷ ns) = higher (put_among e (entries n.routers)) (put_within e ns)

-- the highest of some numbers of a list
abbrev pub highest : {X : Type 0} → (X → ℕ) → List X → ℕ
highest h [] = 0
highest h (x ∷ xs) = higher (h x) (highest h xs)

-- the number after an item's if it is Gone, else none; no item of a lawful world has the number that no item has
unfoldable pub after_gone : ℕ → Item → ℕ
after_gone n item = cond (is_gone_item item) (if nat_lt n no_number then n + 1 else n) 0

-- of the last entry of a queue, since Gone is the last item of its end; the highest in a router's queues, of a message, in a mailbox, and in
-- a node's routers and outboxes
abbrev pub gone_last : Option (ℕ × Item) → ℕ
gone_last None = 0
gone_last (Some x) = after_gone x.0 x.1

abbrev pub last_gone : List (ℕ × Item) → ℕ
last_gone es = gone_last (last_of es)

unfoldable pub gone_queued : Queue Item → ℕ
gone_queued q = last_gone (entries q.items)

unfoldable pub gone_held : Router → ℕ
gone_held r = higher (gone_queued r.out_queue) (gone_queued r.in_queue)

unfoldable pub gone_message : Message → ℕ
gone_message (messages.Item link s n item moves) = after_gone n item
gone_message other = 0

unfoldable pub gone_mailed : Mail → ℕ
gone_mailed mails.Empty = 0
gone_mailed (mails.Full m) = gone_message m
gone_mailed (mails.Hand m) = gone_message m

unfoldable pub gone_at : Node → ℕ
gone_at n = higher (highest (λ (x : ℕ × Router). gone_held x.1) (entries n.routers)) (highest (λ box. highest gone_message box) n.outboxes)

-- the number after the highest one of a Gone that stands anywhere
unfoldable pub gone_most : World → ℕ
gone_most w = higher (highest gone_at w.nodes) (highest gone_mailed w.mail)

-- whether an end's terminal stands in one of these nodes
abbrev pub has_within : End → List Node → Bool
has_within e [] = false
has_within e (n ∷ ns) = is_some (find_router n (λ r. is_terminal r && same_end r.end e)) || has_within e ns

-- how many items an end has put that its peer hasn't read all: as its terminal tells, or, if none stands, as a Gone that wasn't read
unfoldable pub put_most : World → End → ℕ
put_most w e = if has_within e w.nodes then put_within e w.nodes else gone_most w

-- how many numbers have still to pass a router: those that its end has put and it hasn't sent, those that the peer has put and it hasn't
-- passed on, and a mark and Gone of each
unfoldable pub numbers_left : World → Router → ℕ
numbers_left w r =
    (put_most w r.end - r.out_queue.current) + (put_most w (opposite_end r.end) - r.in_queue.current) + 4

-- acts enough for a router: six for each of these numbers, and 17 for a terminal's flag, link, word and lock, 61 for a proxy's and its bypass
unfoldable pub router_limit : World → Router → ℕ
router_limit w r = 6 * numbers_left w r + cond (is_terminal r) 17 61

-- acts enough for a node: its routers, 38 for each message that waits to be posted, 3 for each end that is to be closed
unfoldable pub node_limit : World → Node → ℕ
node_limit w n = total (λ serial r. router_limit w r) n.routers + (38 * total_list length n.outboxes + 3 * length n.pending)

-- acts enough for a world: its nodes, and 37 for each message in a mailbox
unfoldable pub settle_limit : World → ℕ
settle_limit w = total_list (node_limit w) w.nodes + 37 * total_list (λ m. cond (is_clear m) 0 1) w.mail

-- law: the rank is no more, if no item that wasn't read carries an end
abbrev pub RankIsWithinLimit : Type 0
RankIsWithinLimit = (w : World) (b : Books) (g : Routes) → Lawful w b g → CarryNone b → plain_limit b w ≤ settle_limit w

-- law: so there it is enough for a settle, with two more for each begin or retire that finds no memory
abbrev pub SettleLimitIsEnough : Type 0
SettleLimitIsEnough =
    (limit : ℕ) (w v : World) (b : Books) (g : Routes) → Lawful w b g → CarryNone b → (s : IsSettle limit w v ends.Unsettled) →
    limit < settle_limit w + 2 * unlocks_taken 0 s.visits w v s.turns
