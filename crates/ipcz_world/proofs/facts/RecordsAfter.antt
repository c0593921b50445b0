-- The records after each step: one function for each kind of step, over records with one entry changed.
use Rattle.std.specs.Prelude.{cond, ℕ, ◌+◌, Bool, true, false, nat_eq, if◌then◌else◌, Option, Some, None, List, [], ◌∷◌}
use Rattle.std.specs.Prelude.{length}
use Rattle.ipcz_base.specs.declared.side.Side.{Side}
use Rattle.ipcz_base.specs.declared.side.Side.TheVariants.{A, B}
use Rattle.ipcz_base.specs.declared.end.End.{End}
use Rattle.ipcz_base.specs.declared.link_id.LinkId.{LinkId}
use Rattle.ipcz_base.specs.declared.link_id.LinkId.TheVariants.{Central, Peripheral}
use Rattle.ipcz_base.specs.declared.descriptor.Descriptor.{Descriptor}
use Rattle.ipcz_base.specs.declared.message.Message.{Message}
use Rattle.ipcz_base.specs.declared.message.Message.TheVariants as messages
use Rattle.ipcz_base.specs.declared.link_end.LinkEnd.{LinkEnd}
use Rattle.ipcz_base.specs.Ends.{same_end}
use Rattle.ipcz_base.specs.Sides.{same_side}
use Rattle.ipcz_router.specs.declared.act.RouterAct.{RouterAct}
use Rattle.ipcz_router.specs.declared.act.RouterAct.TheVariants.{SendOut, SendIn}
use Rattle.ipcz_world.proofs.Vocabulary.{Plain, way_out, way_in, apply, leaves_by, none, descriptor_of, link_router, Transfer, keep_or_drop, Happened}
use Rattle.ipcz_world.proofs.Vocabulary.{Step, Turn, router_of, CentralRecord, Lost, Moving, Retired}
use Rattle.ipcz_router.specs.Router.{Router, is_terminal, primary_word, inward_edge}
use Rattle.ipcz_word.specs.SideSets.{with}
use Rattle.ipcz_node.specs.Node.{Node, Found, terminal_of}
use Rattle.ipcz_node.specs.Sends.{next_link, move_end}
use Rattle.ipcz_node.specs.Hands.{link_asked, side_asked}
use Rattle.ipcz_node.specs.declared.happened.Happened.TheVariants as events
use Rattle.ipcz_world.specs.declared.step.Step.TheVariants.{Open}
use Rattle.ipcz_world.specs.declared.step.Reply.{Reply}
use Rattle.ipcz_world.specs.declared.step.Reply.TheVariants as replies
use Rattle.ipcz_world.specs.World.{World, Key, same_key, node_at}
use Rattle.ipcz_world.specs.Routes.{hand_of}
use Rattle.ipcz_world.specs.Records.{Records, Owner, PeripheralRecord, Bypass, Terminal, Spare, Opening, Fresh, Linked, At}

-- the records with another owner of a word
abbrev pub set_owner : Records → ℕ → Owner → Records
set_owner g i o = record g { owner = λ j. cond (nat_eq j i) o (g.owner j) }

-- the records with another record of a word's link
abbrev pub set_central : Records → ℕ → CentralRecord → Records
set_central g i c = record g { central = λ j. cond (nat_eq j i) c (g.central j) }

-- the records with another record of a peripheral link
abbrev pub set_peripheral : Records → Key → PeripheralRecord → Records
set_peripheral g k p = record g { peripheral = λ j. cond (same_key j k) p (g.peripheral j) }

-- the records with another record of a bypass
abbrev pub set_bypass : Records → ℕ → Bypass → Records
set_bypass g i b = record g { bypass = λ j. cond (nat_eq j i) b (g.bypass j) }

-- the records with a bypass that a router has begun
abbrev pub set_begun : Records → Key → ℕ → Records
set_begun g k o = record g { begun = λ j. cond (same_key j k) (Some o) (g.begun j) }

-- the records with another place of an end's terminal
abbrev pub set_terminal : Records → End → Terminal → Records
set_terminal g e t = record g { terminal = λ d. cond (same_end d e) t (g.terminal d) }

-- one side with a new value, the other as before
abbrev pub at_side : {X : Type 0} → (Side → X) → Side → X → Side → X
at_side f s x t = cond (same_side t s) x (f t)

-- a pair is opened on a word at a node, its terminals under these serials
abbrev pub open_records : Records → ℕ → ℕ → ℕ → Records
open_records g n i serial =
    set_terminal (set_terminal (set_central (set_owner g i Linked) i (record {
      pair = i;
      node = λ s. n;
      router = at_side (λ s. Some serial) B (Some (serial + 1));
      born = None;
      left = none;
    })) (record { pair = i; side = A }) (At (record { node = n; serial = serial }))) (record { pair = i; side = B })
    (At (record { node = n; serial = serial + 1 }))

-- a word is claimed for an open
abbrev pub opening_records : Records → ℕ → ℕ → Records
opening_records g n i = set_owner g i (Opening n)

-- a word is claimed by a proxy
abbrev pub claim_records : Records → Key → ℕ → Records
claim_records g k i = set_owner g i (Spare k)

-- a bypass begins
abbrev pub begin_records : Records → Key → ℕ → ℕ → Key → Records
begin_records g k o fresh inner =
    set_begun (set_peripheral (set_bypass (set_owner g fresh (Fresh o)) o
    (record { stage = 1; proxy = k; inner = inner; fresh = fresh; taken_at = 0; accepted_at = 0 }))
    inner (record (g.peripheral inner) { by = Some o })) k o

-- the router inward takes the fresh link
abbrev pub taken_records : Records → Key → Router → ℕ → ℕ → ℕ → Records
taken_records g k r o fresh target =
    set_central (set_owner (set_bypass g o (record (g.bypass o) { stage = 2; taken_at = r.out_queue.current })) fresh Linked) fresh
    (record {
      pair = r.end.pair;
      node = at_side (λ s. target) r.end.side k.node;
      router = at_side (λ s. None) r.end.side (Some k.serial);
      born = Some o;
      left = none;
    })

-- the router across accepts
abbrev pub accepted_records : Records → Key → Router → ℕ → Side → ℕ → Records
accepted_records g k r o side fresh =
    set_central (set_bypass g o (record (g.bypass o) { stage = 3; accepted_at = r.out_queue.current })) fresh
    (record (g.central fresh) { router = at_side (g.central fresh).router side (Some k.serial) })

-- the proxy is told
abbrev pub told_records : Records → ℕ → Records
told_records g o = set_bypass g o (record (g.bypass o) { stage = 4 })

-- the router inward is told
unfoldable pub ended_records : Records → Option ℕ → Records
ended_records g None = g
ended_records g (Some o) = set_bypass g o (record (g.bypass o) { stage = 5 })

-- a terminal moves: it becomes a proxy, and its descriptor is under way
abbrev pub move_records : Records → Node → ℕ → ℕ → Router → Records
move_records g n to serial r =
    set_terminal (set_peripheral g (record { node = n.number; serial = n.next_peripheral })
    (record { end = r.end; proxy = serial; node = to; router = None; by = None; left = none }))
    r.end (Moving (descriptor_of r (next_link n)))

-- the terminal that was found moves
unfoldable pub found_records : Records → Node → ℕ → Option Found → Records
found_records g n to None = g
found_records g n to (Some f) = move_records g n to f.serial f.router

-- the terminals of these ends move, in order
abbrev pub moves_records : Records → Transfer → ℕ → List End → Records
moves_records g m to [] = g
moves_records g m to (e ∷ es) = moves_records (found_records g m.node to (terminal_of m.node e)) (move_end m to e) to es

-- a descriptor becomes a terminal under this serial
unfoldable pub made_at : Records → ℕ → ℕ → End → LinkId → Records
made_at g n serial e (Central i) = g
made_at g n serial e (Peripheral m x) =
    set_terminal (set_peripheral g (record { node = m; serial = x })
    (record (g.peripheral (record { node = m; serial = x })) { router = Some serial })) e (At (record { node = n; serial = serial }))

-- these descriptors become terminals, under the serials from one on
abbrev pub made_records : Records → ℕ → ℕ → List Descriptor → Records
made_records g n serial [] = g
made_records g n serial (d ∷ ds) = made_records (made_at g n serial d.end d.link) n (serial + 1) ds

-- the bypass that takes a peripheral link away
unfoldable pub inner_bypass : Records → LinkId → Option ℕ
inner_bypass g (Central i) = None
inner_bypass g (Peripheral n x) = (g.peripheral (record { node = n; serial = x })).by

-- the records after a message that fits, at the router that was found
unfoldable pub handled_records : World → Records → ℕ → Message → Option Found → Records
handled_records w g n m None = g
handled_records w g n (messages.Item link side number item moves) (Some f) = made_records g n (node_at w n).next_router moves
handled_records w g n (messages.BypassPeer link side old target fresh) (Some f) =
    taken_records g (record { node = n; serial = f.serial }) f.router old fresh target
handled_records w g n (messages.AcceptBypass old side fresh length) (Some f) =
    accepted_records g (record { node = n; serial = f.serial }) f.router old side fresh
handled_records w g n (messages.StopProxying side old in_length out_length) (Some f) = told_records g old
handled_records w g n (messages.ProxyWillStop link side in_length) (Some f) = ended_records g (inner_bypass g link)
handled_records w g n (messages.Flush link side) (Some f) = g

-- the records after a node has handled the message in its hand; one that doesn't fit leaves them
unfoldable pub hand_records : World → Records → ℕ → Bool → Option Message → Records
hand_records w g n unfit None = g
hand_records w g n true (Some m) = g
hand_records w g n false (Some m) = handled_records w g n m (link_router (node_at w n) (link_asked m) (side_asked m))

-- the key of a peripheral link
unfoldable pub inner_key : Option LinkEnd → Option Key
inner_key None = None
inner_key (Some e) = key_of e.link
  where
    key_of : LinkId → Option Key
    key_of (Central i) = None
    key_of (Peripheral n x) = Some (record { node = n; serial = x })

-- a bypass begins, if the router has all that it takes
unfoldable pub begun_records : Records → Key → Option ℕ → Option ℕ → Option Key → Records
begun_records g k (Some o) (Some fresh) (Some inner) = begin_records g k o fresh inner
begun_records g k o fresh inner = g

-- a bypass begins at the router that stands there
unfoldable pub router_begun_records : Records → Key → Option Router → Records
router_begun_records g k None = g
router_begun_records g k (Some r) = begun_records g k (primary_word r) r.spare (inner_key (inward_edge r).primary)

-- the node of a link end, or of none this node
unfoldable pub node_across : ℕ → Option LinkEnd → ℕ
node_across n None = n
node_across n (Some e) = e.other

-- the terminals of these ends move with what a router sends by an act
unfoldable pub sent_records : World → Records → ℕ → ℕ → RouterAct → List End → Option Router → Records
sent_records w g n serial act moved None = g
sent_records w g n serial act moved (Some r) =
    moves_records g (record { node = keep_or_drop (node_at w n) serial (apply r act Plain) (leaves_by r act); moves = [] }) (node_across n (way_of r act))
    moved
  where
    way_of : Router → RouterAct → Option LinkEnd
    way_of q SendIn = way_in q
    way_of q other = way_out q

-- a side of a link is left
unfoldable pub left_link : Records → LinkId → Side → Records
left_link g (Central i) s = set_central g i (record (g.central i) { left = with (g.central i).left s })
left_link g (Peripheral n x) s =
    set_peripheral g (record { node = n; serial = x })
    (record (g.peripheral (record { node = n; serial = x })) { left = with (g.peripheral (record { node = n; serial = x })).left s })

-- the side of a link end is left, if there is one
unfoldable pub left_end : Records → Option LinkEnd → Records
left_end g None = g
left_end g (Some e) = left_link g e.link e.side

-- a word that was the spare of a router is lost, if there is one
unfoldable pub lost_word : Records → Option ℕ → Records
lost_word g None = g
lost_word g (Some i) = set_owner g i Lost

-- the end of a terminal has none any more
abbrev pub retired_end : Records → Router → Records
retired_end g r = if is_terminal r then set_terminal g r.end Retired else g

-- a router leaves: what it still had is left and lost
abbrev pub leave_records : Records → Router → Records
leave_records g r = retired_end (lost_word (left_end (left_end g r.outward.primary) (inward_edge r).primary) r.spare) r

-- the router that stands there leaves
unfoldable pub router_left_records : Records → Option Router → Records
router_left_records g None = g
router_left_records g (Some r) = leave_records g r

-- the records after what a turn of a node was seen to do
unfoldable pub records_after_turn : World → Records → ℕ → Happened → Records
records_after_turn w g n (events.Hand kind link unfit) = hand_records w g n unfit (hand_of w n (node_at w n).hand)
records_after_turn w g n (events.SendOut serial number link moved) = sent_records w g n serial SendOut moved (router_of w n serial)
records_after_turn w g n (events.SendIn serial number link moved) = sent_records w g n serial SendIn moved (router_of w n serial)
records_after_turn w g n (events.Claim serial i) = claim_records g (record { node = n; serial = serial }) i
records_after_turn w g n (events.Begin serial link) = router_begun_records g (record { node = n; serial = serial }) (router_of w n serial)
records_after_turn w g n (events.Leave serial) = router_left_records g (router_of w n serial)
records_after_turn w g n (events.DiscardLeave serial number) = router_left_records g (router_of w n serial)
records_after_turn w g n (events.Retire serial number link) = router_left_records g (router_of w n serial)
records_after_turn w g n other = g

-- the records after a step of a world and its reply
unfoldable pub records_after : World → Records → Step → Reply → Records
records_after w g (Open n) (replies.Opened d e) = open_records g n d.pair (node_at w n).next_router
records_after w g (Turn n) (replies.Turned event) = records_after_turn w g n event
records_after w g step reply = g
