-- What acts are seen to do, and what the run then writes of the routes.
use Rattle.ipcz_world.specs.Routes.{lose_spare, spare_in}
use Rattle.ipcz_world.proofs.Vocabulary.{Side, End, LinkId, LinkEnd, Item, Message, current_item, Router, is_possible, output_of, RouterAct, Hand}
use Rattle.ipcz_world.proofs.Vocabulary.{Node, router_in, World, way, mail_at, node_at, router_at, hand_message, answer_of, next_number}
use Rattle.ipcz_world.proofs.Vocabulary.{has_gone_next, source_for, way_out, way_in, may_take, is_rest, item_output, Answer, Applied, Happened}
use Rattle.ipcz_world.proofs.Vocabulary.{moved_ends, event_of, turn_event, router_seen, Routes, routes_after_turn}
use Rattle.std.specs.Prelude.{◌≡◌, ◌⊎◌, ℕ, ◌+◌, Bool, true, false, cond, nat_eq, Option, Some, None, List, [], ◌∷◌, refl}
use Rattle.std.proofs.Common.{arith, ap, ◌∙◌, inl, inr}
use Rattle.std.proofs.lemmas.Bool.Decides.{nat_tests}
use Rattle.ipcz_base.specs.declared.message.Message.TheVariants as messages
use Rattle.ipcz_router.specs.declared.act.RouterAct.TheVariants as acts
use Rattle.ipcz_router.specs.declared.act.Answer.TheVariants as answers
use Rattle.ipcz_router.specs.declared.act.Applied.TheVariants as sends
use Rattle.ipcz_node.specs.declared.act.Act.TheVariants.{Router as OfRouter}
use Rattle.ipcz_node.specs.declared.happened.Happened.TheVariants as events
use Rattle.ipcz_node.specs.Hands.{is_unfit}
use Rattle.ipcz_node.specs.Events.{kind_of, hand_event, link_of, send_event, word_event, unlock_event, router_event, event_at}
use Rattle.ipcz_world.specs.declared.mail.Mail.TheVariants as mails
use Rattle.ipcz_world.specs.Turns.{hand_seen}
use Rattle.ipcz_world.specs.Routes.{add_link, add_fresh, add_peripheral, add_peripherals, hand_of}
use Rattle.ipcz_world.specs.Laws.{KeepsLinks}

-- of what kind an event is: a close, a discard, a begin, a discard of Gone, a retire, or another
unfoldable pub kind : Happened → ℕ
kind (events.Close e) = 1
kind (events.Discard serial number) = 2
kind (events.Begin serial link) = 3
kind (events.DiscardLeave serial number) = 4
kind (events.Retire serial number link) = 5
kind other = 0

kind-send : (n : Node) (event : ℕ → LinkId → List End → Happened) (a : Applied) →
    ((number : ℕ) (link : LinkId) (ends : List End) → kind (event number link ends) ≡ 0) → kind (send_event n event a) ≡ 0
unfolding send_event kind
kind-send n event (sends.Sent link number item) h = h number link.link _
kind-send n event other h = refl

kind-word : (serial : ℕ) (link : LinkId) (a : Answer) → kind (word_event serial link a) ≡ 0
unfolding word_event kind
kind-word serial link answers.Plain = refl
kind-word serial link other = refl

kind-unlock : (serial : ℕ) (link : LinkId) (a : Answer) → kind (unlock_event serial link a) ≡ 0
unfolding unlock_event kind
kind-unlock serial link answers.Plain = refl
kind-unlock serial link other = refl

-- what an act of a router is seen to do
pub router_kind : (n : Node) (s : ℕ) (r : Router) (act : RouterAct) (a : Answer) →
    (kind (router_event n s r act a) ≡ 0) ⊎
    (((act ≡ acts.Discard) × (has_gone_next r ≡ false) × (router_event n s r act a ≡ events.Discard s r.in_queue.current)) ⊎
    (((act ≡ acts.Begin) × (router_event n s r act a ≡ events.Begin s (link_of r.outward.primary))) ⊎
    (((act ≡ acts.Discard) × (has_gone_next r ≡ true) × (router_event n s r act a ≡ events.DiscardLeave s r.in_queue.current)) ⊎
    ((act ≡ acts.Retire) × (router_event n s r act a ≡ events.Retire s (next_number r) (link_of r.outward.primary))))))
unfolding router_event kind
router_kind n s r acts.SendOut a = inl (kind-send n _ (output_of r acts.SendOut) (λ m l e. refl))
router_kind n s r acts.SendIn a = inl (kind-send n _ (output_of r acts.SendIn) (λ m l e. refl))
router_kind n s r acts.Discard a = go (has_gone_next r) refl
  where
    go : (c : Bool) → has_gone_next r ≡ c → (kind (router_event n s r acts.Discard a) ≡ 0) ⊎
        (((acts.Discard ≡ acts.Discard) × (has_gone_next r ≡ false) × (router_event n s r acts.Discard a ≡ events.Discard s r.in_queue.current)) ⊎
        (((acts.Discard ≡ acts.Begin) × (router_event n s r acts.Discard a ≡ events.Begin s (link_of r.outward.primary))) ⊎
        (((acts.Discard ≡ acts.Discard) × (has_gone_next r ≡ true) ×
        (router_event n s r acts.Discard a ≡ events.DiscardLeave s r.in_queue.current)) ⊎
        ((acts.Discard ≡ acts.Retire) × (router_event n s r acts.Discard a ≡ events.Retire s (next_number r) (link_of r.outward.primary))))))
    go true e = inr (inr (inr (inl (refl, e, rw e refl))))
    go false e = inr (inl (refl, e, rw e refl))
router_kind n s r acts.Mark a = inl (kind-word s (link_of r.outward.primary) a)
router_kind n s r acts.Wake a = inl (kind-word s (link_of r.outward.primary) a)
router_kind n s r acts.Claim a = inl (kind-word s (link_of r.outward.primary) a)
router_kind n s r acts.Lock a = inl (kind-word s (link_of r.outward.primary) a)
router_kind n s r acts.Begin a = inr (inr (inl (refl, refl)))
router_kind n s r acts.Retire a = inr (inr (inr (inr (refl, refl))))
router_kind n s r acts.Unlock a = inl (kind-unlock s (link_of r.outward.primary) a)
router_kind n s r other a = inl refl

-- an act of a router that is seen stands there
pub seen_event : (w : World) (n s : ℕ) (act : RouterAct) (r : Router) → router_at w (record { node = n; serial = s }) ≡ Some r →
    turn_event w n (OfRouter s act) ≡ router_event (node_at w n) s r act (answer_of w r act)
unfolding turn_event router_seen event_of event_at router_at
seen_event w n s act r here = let inside : router_in (node_at w n) s ≡ Some r = here in rw (here, inside) refl

pub taken_possible : (r : Router) (act : RouterAct) → may_take r act ≡ true → is_rest act ≡ false → is_possible r act ≡ true
taken_possible r act h n = go (is_possible r act) refl
  where
    go : (c : Bool) → is_possible r act ≡ c → is_possible r act ≡ true
    go true e = e
    go false e = absurd (grind (arith, h, n, e))

-- ROUTES

-- an act on a word leaves the routes
routes-word : (w : World) (g : Routes) (n s : ℕ) (l : LinkId) (a : Answer) → routes_after_turn w g n (word_event s l a) ≡ g
unfolding word_event routes_after_turn
routes-word w g n s l answers.Plain = refl
routes-word w g n s l other = refl

routes-unlock : (w : World) (g : Routes) (n s : ℕ) (l : LinkId) (a : Answer) → routes_after_turn w g n (unlock_event s l a) ≡ g
unfolding unlock_event routes_after_turn
routes-unlock w g n s l answers.Plain = refl
routes-unlock w g n s l other = refl

-- whether an act sends an item or lets a proxy leave
abbrev pub is_send : RouterAct → Bool
is_send acts.SendOut = true
is_send acts.SendIn = true
is_send acts.Leave = true
is_send other = false

-- so does each act of a router that sends no item and lets no proxy leave
routes-act : (w : World) (g : Routes) (n s : ℕ) (x : Node) (r : Router) (a : RouterAct) (t : Answer) → is_send a ≡ false →
    routes_after_turn w g n (router_event x s r a t) ≡ g
unfolding router_event routes_after_turn
routes-act w g n s x r acts.SendOut t h = cc
routes-act w g n s x r acts.SendIn t h = cc
routes-act w g n s x r acts.Discard t h = go (has_gone_next r) refl
  where
    go : (c : Bool) → has_gone_next r ≡ c → routes_after_turn w g n (router_event x s r acts.Discard t) ≡ g
    go true e = rw e refl
    go false e = rw e refl
routes-act w g n s x r acts.Leave t h = cc
routes-act w g n s x r acts.Mark t h = routes-word w g n s (link_of r.outward.primary) t
routes-act w g n s x r acts.Wake t h = routes-word w g n s (link_of r.outward.primary) t
routes-act w g n s x r acts.Claim t h = routes-word w g n s (link_of r.outward.primary) t
routes-act w g n s x r acts.Lock t h = routes-word w g n s (link_of r.outward.primary) t
routes-act w g n s x r acts.Unlock t h = routes-unlock w g n s (link_of r.outward.primary) t
routes-act w g n s x r other t h = refl

pub routes-still : (w : World) (g : Routes) (n s : ℕ) (r : Router) (a : RouterAct) →
    router_at w (record { node = n; serial = s }) ≡ Some r → is_send a ≡ false → routes_after_turn w g n (turn_event w n (OfRouter s a)) ≡ g
routes-still w g n s r a here h = ap (routes_after_turn w g n) (seen_event w n s a r here) ∙ routes-act w g n s (node_at w n) r a
    (answer_of w r a) h

-- a proxy that leaves loses its spare
pub routes-leave : (w : World) (g : Routes) (n s : ℕ) (r : Router) → router_at w (record { node = n; serial = s }) ≡ Some r →
    routes_after_turn w g n (turn_event w n (OfRouter s acts.Leave)) ≡ lose_spare g r.spare
unfolding router_event routes_after_turn spare_in router_at
routes-leave w g n s r here = ap (routes_after_turn w g n) (seen_event w n s acts.Leave r here) ∙ ap (λ o. lose_spare g (spare_in o)) here

-- a send writes a peripheral link for each end that moves
pub routes-send_out : (w : World) (g : Routes) (n s : ℕ) (r : Router) (e : LinkEnd) (item : Item) →
    router_at w (record { node = n; serial = s }) ≡ Some r → way_out r ≡ Some e → current_item r.out_queue ≡ Some item →
    routes_after_turn w g n (turn_event w n (OfRouter s acts.SendOut)) ≡ add_peripherals g n (node_at w n).next_peripheral
    (moved_ends (node_at w n) e item)
unfolding router_event send_event output_of item_output routes_after_turn
routes-send_out w g n s r e item here chosen at = ap (routes_after_turn w g n) (seen_event w n s acts.SendOut r here) ∙ rw (chosen, at) refl

pub routes-send_in : (w : World) (g : Routes) (n s : ℕ) (r : Router) (e : LinkEnd) (item : Item) →
    router_at w (record { node = n; serial = s }) ≡ Some r → way_in r ≡ Some e → current_item r.in_queue ≡ Some item →
    routes_after_turn w g n (turn_event w n (OfRouter s acts.SendIn)) ≡ add_peripherals g n (node_at w n).next_peripheral
    (moved_ends (node_at w n) e item)
unfolding router_event send_event output_of item_output routes_after_turn
routes-send_in w g n s r e item here chosen at = ap (routes_after_turn w g n) (seen_event w n s acts.SendIn r here) ∙ rw (chosen, at) refl

-- HANDS

-- whether a message brings a fresh link
abbrev pub is_peer : Message → Bool
is_peer (messages.BypassPeer link side old target fresh) = true
is_peer other = false

pub hand-seen : (w : World) (n from : ℕ) (m : Message) → mail_at w (way w from n) ≡ mails.Hand m →
    turn_event w n (Hand from) ≡ hand_event (node_at w n) from m (source_for w m)
unfolding turn_event hand_seen hand_message
hand-seen w n from m e = rw e refl

routes-message : (w : World) (g : Routes) (n from : ℕ) (x : Node) (o : Option ℕ) (m : Message) → is_peer m ≡ false →
    routes_after_turn w g n (hand_event x from m o) ≡ g
unfolding hand_event kind_of routes_after_turn
routes-message w g n from x o (messages.BypassPeer link side old target fresh) h = cc
routes-message w g n from x o other h = refl

-- a hand leaves the routes, but that of a BypassPeer
pub routes-hand : (w : World) (g : Routes) (n from : ℕ) (m : Message) → mail_at w (way w from n) ≡ mails.Hand m → is_peer m ≡ false →
    routes_after_turn w g n (turn_event w n (Hand from)) ≡ g
routes-hand w g n from m e h = ap (routes_after_turn w g n) (hand-seen w n from m e) ∙ routes-message w g n from (node_at w n)
    (source_for w m) m h

-- which makes the fresh word that of a link
pub routes-peer : (w : World) (g : Routes) (n from : ℕ) (link : LinkId) (side : Side) (old target fresh : ℕ) →
    mail_at w (way w from n) ≡ mails.Hand (messages.BypassPeer link side old target fresh) → (node_at w n).hand ≡ Some from →
    is_unfit (node_at w n) from (messages.BypassPeer link side old target fresh)
    (source_for w (messages.BypassPeer link side old target fresh)) ≡ false →
    routes_after_turn w g n (turn_event w n (Hand from)) ≡ add_link g fresh (g.pair old)
unfolding hand_event kind_of routes_after_turn hand_of hand_message add_fresh
routes-peer w g n from link side old target fresh e hand fits = ap (routes_after_turn w g n)
    (hand-seen w n from (messages.BypassPeer link side old target fresh) e) ∙ rw (fits, hand, e) refl

-- LINKS STAY

pub stays-same : (g h : Routes) → h ≡ g → KeepsLinks g h
stays-same g h s i l = (ap (λ (z : Routes). z.is_link i) s ∙ l, ap (λ (z : Routes). z.pair i) s)

pub stays-link : (g : Routes) (i p : ℕ) → g.is_link i ≡ false → KeepsLinks g (add_link g i p)
stays-link g i p h j l = go (nat_eq j i) refl
  where
    go : (c : Bool) → nat_eq j i ≡ c → (cond c true (g.is_link j) ≡ true) × (cond c p (g.pair j) ≡ g.pair j)
    go true e = let s : j ≡ i = grind (arith, e, nat_tests) in absurd (grind (arith, l, h, ap g.is_link s))
    go false e = (l, refl)

pub stays-lost : (g : Routes) (o : Option ℕ) → KeepsLinks g (lose_spare g o)
unfolding lose_spare
stays-lost g None i l = (l, refl)
stays-lost g (Some j) i l = (l, refl)

pub stays-peripherals : (g : Routes) (n x : ℕ) (es : List End) → KeepsLinks g (add_peripherals g n x es)
stays-peripherals g n x [] i l = (l, refl)
stays-peripherals g n x (e ∷ es) i l = stays-peripherals (add_peripheral g (record { node = n; serial = x }) e) n (x + 1) es i l

-- a hand is of another kind
pub hand_kind : (w : World) (x from : ℕ) (o : Option Message) → kind (hand_seen w x from o) ≡ 0
unfolding hand_seen hand_event kind
hand_kind w x from None = refl
hand_kind w x from (Some m) = refl
