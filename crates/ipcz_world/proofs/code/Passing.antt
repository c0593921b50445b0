-- Items pass from one node to another, one after the other: each leaves its router, is posted and looked at; and before it is handed, the
-- next one leaves.
use Rattle.std.specs.Prelude.{◌≡◌, ◌≤◌, ◌<◌, ℕ, ◌+◌, Bool, true, false, cond, not, nat_eq, nat_lt, if◌then◌else◌, is_some, IsSomeAnd, Option, Some, None}
use Rattle.std.specs.Prelude.{[], ◌∷◌, ◌++◌, length, refl}
use Rattle.std.proofs.Common.{arith, ap, sym, subst, ◌∙◌}
use Rattle.std.proofs.lemmas.Bool.Decides.{nat_tests}
use Rattle.std.specs.FinMap.{get}
use Rattle.ipcz_world.proofs.Vocabulary.{Item, Node, Router, World, Message, Empty, bare_node, commit, current_item, outbox, opposite, router_in}
use Rattle.ipcz_world.proofs.Vocabulary.{with_router, after_act, hand_message, mail_at, node_at, put_place, set_mail, set_node, way, LinkEnd}
use Rattle.ipcz_world.proofs.Vocabulary.{no_number, Plain, pop_out, flagged_router, push_out, act_lacks_serials, are_empty, close_turn, first_of}
use Rattle.ipcz_world.proofs.Vocabulary.{has_mail_for, post_of, rest_of, router_turn, deliver, fits, SendsNext, node_limit, Mail, IsPassing}
use Rattle.ipcz_world.proofs.Vocabulary.{with_hand, next_node, IsRegular, HasLengths, after_hand, after_look, after_post, full_message, is_clear}
use Rattle.ipcz_world.proofs.Vocabulary.{is_full, is_idle, next_at, turn_lacks_serials, Walk, source_for, is_quiet}
use Rattle.ipcz_base.proofs.Indexed.{place_at-put_place}
use Rattle.ipcz_router.specs.declared.act.RouterAct.TheVariants as router_acts
use Rattle.ipcz_router.proofs.LoneRouters.{SendsFirst, next_told, sends_next}
use Rattle.ipcz_node.specs.declared.act.Act.TheVariants as acts
use Rattle.ipcz_node.specs.Hands.{fits_item, message_lacks_serials}
use Rattle.ipcz_node.proofs.LoneNodes.{first_freely, first_message, first_sent, item_unheld, lowest_flagged}
use Rattle.ipcz_node.proofs.Mailing.{empty_box}
use Rattle.ipcz_world.specs.declared.mail.Mail.TheVariants.{Full, Hand}
use Rattle.ipcz_world.specs.FastPath.{IsLoneSender, lone_message}
use Rattle.ipcz_world.specs.Turns.{hand_lacks_serials}
use Rattle.ipcz_world.specs.Visiting.{IsNextBusy}
use Rattle.ipcz_world.proofs.code.GoingOn.{first-busy, go-on, next-busy, router-acts}
use Rattle.ipcz_world.proofs.code.LoneWorlds.{Quiet, hand_act, look_act, own_act, post_act, put-apart, quiet_idle, quiet_is, pair, pair-start}
use Rattle.ipcz_world.proofs.code.LoneWorlds.{box-here, node-other, node-sender, node-taker, none-elsewhere, none-from, none-to}
use Rattle.ipcz_world.proofs.code.LoneWorlds.{write-box, write-sender, write-taker}
use Rattle.ipcz_world.proofs.frames.Frames.{node-set_node}
use Rattle.ipcz_world.proofs.acts.Updating.{node-here, put-twice}
use Rattle.ipcz_world.proofs.code.Slots.{put-same}
use Rattle.ipcz_world.proofs.code.Visiting.{OnWay, next-place, on_way-start, on_way-walked, walked}
use Rattle.ipcz_world.proofs.code.Writes.{lengths-kept}

-- a node that sends an item first, over one link
module _ (x : Node) (serial : ℕ) (link : LinkEnd) (sends : SendsNext x serial link) where
  abbrev pub sender : Router
  sender = sends.sender.router

  abbrev pub sent_first : SendsFirst sender link
  sent_first = next_told sender link sends.sender.sends

  -- the message that carries the item, and the node without it
  abbrev pub sent_message : Message
  sent_message = first_message x serial link sender sends.sender.here sent_first

  abbrev pub sent_node : Node
  sent_node = with_router x serial (pop_out sender)

  -- the node while the message waits in its outbox
  abbrev pub waiting_node : Node
  waiting_node = push_out sent_node link.other sent_message

  pub own_send : close_turn x.pending (router_turn (flagged_router x)) ≡ acts.Router serial router_acts.SendOut
  unfolding router_turn close_turn
  own_send =
      ap (λ es. close_turn es (router_turn (flagged_router x))) sends.pending
      ∙ ap router_turn (lowest_flagged x.routers serial sender sends.sender.here sends.sender.flagged sends.sender.others)
      ∙ ap (acts.Router serial) (sends_next sender link sent_first)

  empty-for : (i : ℕ) → outbox x i ≡ []
  empty-for i = empty_box x.outboxes i sends.outboxes

  pub box-there : outbox waiting_node link.other ≡ sent_message ∷ []
  box-there =
      let same : nat_eq link.other link.other ≡ true = grind (arith, nat_tests) in
      place_at-put_place [] x.outboxes link.other (outbox x link.other ++ sent_message ∷ []) link.other
      ∙ ap (λ c. cond c (outbox x link.other ++ sent_message ∷ []) (outbox x link.other)) same
      ∙ ap (λ ms. ms ++ sent_message ∷ []) (empty-for link.other)

  pub mail-there : has_mail_for waiting_node link.other ≡ true
  mail-there = ap (λ ms. not (nat_eq (length ms) 0)) box-there

  pub box-others : (i : ℕ) → (i ≡ link.other → ⊥) → has_mail_for waiting_node i ≡ false
  box-others i ne =
      let other : nat_eq i link.other ≡ false = grind (arith, ne, nat_tests) in
      ap (λ ms. not (nat_eq (length ms) 0)) (place_at-put_place [] x.outboxes link.other (outbox x link.other ++ sent_message ∷ []) i
      ∙ ap (λ c. cond c (outbox x link.other ++ sent_message ∷ []) (outbox x i)) other ∙ empty-for i)

  -- once it is posted the outboxes are as they were
  pub posted : link.other < node_limit → commit waiting_node (acts.Post link.other) Plain ≡ sent_node
  unfolding commit rest_of
  posted l = λ j. record sent_node {
    outboxes = (put-twice [] x.outboxes link.other (outbox x link.other ++ sent_message ∷ []) (rest_of (outbox waiting_node link.other))
        ∙ ap (λ ms. put_place [] x.outboxes link.other (rest_of ms)) box-there
        ∙ ap (put_place [] x.outboxes link.other) (sym (empty-for link.other))
        ∙ put-same [] x.outboxes link.other (omega (arith, l, sends.each))) j;
  }

-- code took the item of a node that sends one first: the node behind it, whose router was changed so, and what code was given
pub record HasSent (change : Router → Router) {x : Node} {serial : ℕ} {link : LinkEnd} (sends : SendsNext x serial link) (new : Node) (number : ℕ)
    (item : Item) : Type 0 where
  pub behind : new ≡ with_router x serial (change (sender x serial link sends))
  pub number_is : number ≡ (sender x serial link sends).out_queue.current
  pub item_is : item ≡ (sent_first x serial link sends).item
  pub low : x.next_peripheral ≤ no_number

-- these make the message that the node sends
pub told : {change : Router → Router} {x : Node} {serial : ℕ} {link : LinkEnd} {sends : SendsNext x serial link} {new : Node} {number : ℕ} {item : Item} →
    HasSent change sends new number item → lone_message link number item ≡ sent_message x serial link sends
told {link = link} sent = λ j. lone_message link (sent.number_is j) (sent.item_is j)

module _ (w : World) (n m : ℕ) (is : IsPassing w n m) (apart : n ≡ m → ⊥) where
  abbrev at : Node → Node → Mail → World
  at x y b = pair w n m x y b

  few : w.count ≤ node_limit
  few = is.lengths.few

  -- each other node is idle
  pub idle-others : (x y : Node) (b : Mail) (k : ℕ) → k < w.count → (k ≡ n → ⊥) → (k ≡ m → ⊥) → is_idle (next_at (at x y b) k) ≡ true
  unfolding set_node set_mail
  idle-others x y b k l kn km =
      let same = node-other w n m apart is.here is.there is.lengths x y b k kn km in
      quiet_idle (at x y b) k few (ap (λ (z : Node). z.count) same ∙ is.counts k l)
      (λ i li. none-elsewhere w n m apart is.here is.there is.lengths x y b is.mail k i l km)
      (subst Quiet (sym same) (quiet_is (node_at w k) (is.others k l kn km)))

  -- a quiet taker is idle while its mailbox isn't full
  idle-taker : (x y : Node) (b : Mail) → is_full b ≡ false → y.count ≡ w.count → Quiet y → is_idle (next_at (at x y b) m) ≡ true
  unfolding set_node set_mail
  idle-taker x y b clear counted quiet =
      let same = node-taker w n m apart is.here is.there is.lengths x y b in
      quiet_idle (at x y b) m few (ap (λ (z : Node). z.count) same ∙ counted)
      (λ i li. none-to w n m apart is.here is.there is.lengths x y b is.mail clear i) (subst Quiet (sym same) quiet)

  idle-but : (x y : Node) (b : Mail) → is_full b ≡ false → y.count ≡ w.count → Quiet y → (k : ℕ) → k < w.count → (k ≡ n → ⊥) →
      is_idle (next_at (at x y b) k) ≡ true
  idle-but x y b clear counted quiet k l ne = go (nat_eq k m) refl
    where
      go : (c : Bool) → nat_eq k m ≡ c → is_idle (next_at (at x y b) k) ≡ true
      go true e = let same : k ≡ m = grind (arith, e, nat_tests) in
          ap (λ k. is_idle (next_at (at x y b) k)) same ∙ idle-taker x y b clear counted quiet
      go false e = idle-others x y b k l ne (λ same. grind (arith, e, same, nat_tests))

  -- from behind the taker the sender is next, and from behind the sender the taker
  sender-next : (x y : Node) (b : Mail) → is_idle (next_at (at x y b) n) ≡ false → IsNextBusy (at x y b) (next_node w m) n
  unfolding set_node set_mail
  sender-next x y b busy =
      next-busy (at x y b) m n is.there is.here busy (λ k l km kn. idle-others x y b k l kn km)

  taker-next : (x y : Node) (b : Mail) → is_idle (next_at (at x y b) m) ≡ false → IsNextBusy (at x y b) (next_node w n) m
  unfolding set_node set_mail
  taker-next x y b busy = next-busy (at x y b) n m is.here is.there busy (idle-others x y b)

  -- from here on acts of a walk that began anywhere
  module _ (w0 : World) where
    module _ (x y : Node) (serial : ℕ) (link : LinkEnd) (sends : SendsNext x serial link) (to : link.other ≡ m) (counted : x.count ≡ w.count) where
      -- the item leaves its router
      send-on : (b : Mail) (done from : ℕ) → x.next_peripheral ≤ no_number →
          (is_idle (next_at (at x y b) n) ≡ false → IsNextBusy (at x y b) from n) → OnWay w0 done (at x y b) from →
          OnWay w0 (done + 1) (at (waiting_node x serial link sends) y b) (next_node w n)
      unfolding set_node set_mail turn_lacks_serials is_idle
      send-on b done from low busy on =
          let u = at x y b in
          let here = node-sender w n m apart is.here is.there is.lengths x y b in
          let first : next_at u n ≡ acts.Router serial router_acts.SendOut =
          own_act u n few (ap (λ (z : Node). z.count) here ∙ counted)
          (λ i li. none-elsewhere w n m apart is.here is.there is.lengths x y b is.mail n i is.here apart)
          (ap (λ (z : Node). z.hand) here ∙ sends.hand) (ap (λ (z : Node). are_empty z.outboxes) here ∙ sends.outboxes)
          ∙ ap (λ (z : Node). close_turn z.pending (router_turn (flagged_router z))) here ∙ own_send x serial link sends in
          go-on w0 u (at (waiting_node x serial link sends) y b) done from n (acts.Router serial router_acts.SendOut) on
          (busy (ap is_idle first)) is.here first
          (ap (λ z. act_lacks_serials z (acts.Router serial router_acts.SendOut)) here
          ∙ first_freely x serial link (sender x serial link sends) sends.sender.here (sent_first x serial link sends) low)
          (router-acts u n serial (sender x serial link sends) router_acts.SendOut
          (ap (λ (z : Node). get z.routers serial) here ∙ sends.sender.here) refl
          ∙ ap (λ z. set_node u n (commit z (acts.Router serial router_acts.SendOut) Plain)) here
          ∙ ap (set_node u n) (sym (first_sent x serial link (sender x serial link sends) sends.sender.here (sent_first x serial link sends)))
          ∙ write-sender w n m apart is.here is.there is.lengths x (waiting_node x serial link sends) y b)

      -- its message is posted
      post-on : (done from : ℕ) →
          (is_idle (next_at (at (waiting_node x serial link sends) y Empty) n) ≡ false →
          IsNextBusy (at (waiting_node x serial link sends) y Empty) from n) →
          OnWay w0 done (at (waiting_node x serial link sends) y Empty) from →
          OnWay w0 (done + 1) (at (sent_node x serial link sends) y (Full (sent_message x serial link sends))) (next_node w n)
      unfolding set_node set_mail turn_lacks_serials act_lacks_serials is_idle is_full is_clear after_act after_post post_of first_of
      post-on done from busy on =
          let z1 = waiting_node x serial link sends in
          let z2 = sent_node x serial link sends in
          let msg = sent_message x serial link sends in
          let u = at z1 y Empty in
          let here = node-sender w n m apart is.here is.there is.lengths z1 y Empty in
          let first : next_at u n ≡ acts.Post m =
          post_act u n m few (ap (λ (z : Node). z.count) here ∙ counted) is.there
          (λ i li. none-elsewhere w n m apart is.here is.there is.lengths z1 y Empty is.mail n i is.here apart)
          (ap (λ (z : Node). z.hand) here ∙ sends.hand)
          (ap (λ z. has_mail_for z m) here ∙ ap (has_mail_for z1) (sym to) ∙ mail-there x serial link sends)
          (ap is_clear (box-here w n m apart is.here is.there is.lengths z1 y Empty))
          (λ i ne. ap (λ z. has_mail_for z i) here ∙ box-others x serial link sends i (λ e. ne (e ∙ to))) in
          go-on w0 u (at z2 y (Full msg)) done from n (acts.Post m) on (busy (ap is_idle first)) is.here first refl
          (ap (λ z. after_post u n m (post_of z (acts.Post m))) here
          ∙ ap (λ ms. after_post u n m (first_of ms)) (ap (outbox z1) (sym to) ∙ box-there x serial link sends)
          ∙ ap (λ z. set_mail (set_node u n (commit z (acts.Post m) Plain)) (way u n m) (Full msg)) here
          ∙ ap (λ k. set_mail (set_node u n (commit z1 (acts.Post k) Plain)) (way u n m) (Full msg)) (sym to)
          ∙ ap (λ z. set_mail (set_node u n z) (way u n m) (Full msg)) (posted x serial link sends (omega (arith, to, is.there, few)))
          ∙ ap (λ v. set_mail v (way u n m) (Full msg)) (write-sender w n m apart is.here is.there is.lengths z1 z2 y Empty)
          ∙ write-box w n m apart is.here is.there is.lengths z2 y Empty (Full msg))

    -- the taker looks
    look-on : (x y : Node) (msg : Message) (done : ℕ) → y.count ≡ w.count → y.hand ≡ None → OnWay w0 done (at x y (Full msg)) (next_node w n) →
        OnWay w0 (done + 1) (at x (record y { hand = Some n }) (Hand msg)) (next_node w m)
    unfolding set_node set_mail turn_lacks_serials act_lacks_serials is_idle is_full after_act after_look full_message commit
    look-on x y msg done counted free on =
        let u = at x y (Full msg) in
        let y1 : Node = record y { hand = Some n } in
        let here = node-taker w n m apart is.here is.there is.lengths x y (Full msg) in
        let box = box-here w n m apart is.here is.there is.lengths x y (Full msg) in
        let first : next_at u m ≡ acts.Look n =
        look_act u m n few (ap (λ (z : Node). z.count) here ∙ counted) is.here (ap is_full box)
        (λ i li ne. none-from w n m apart is.here is.there is.lengths x y (Full msg) is.mail i ne)
        (ap (λ (z : Node). z.hand) here ∙ free) in
        go-on w0 u (at x y1 (Hand msg)) done (next_node w n) m (acts.Look n) on (taker-next x y (Full msg) (ap is_idle first)) is.there first refl
        (ap (λ b. after_look u m n (full_message b)) box
        ∙ ap (λ z. set_mail (set_node u m (commit z (acts.Look n) Plain)) (way u n m) (Hand msg)) here
        ∙ ap (λ v. set_mail v (way u n m) (Hand msg)) (write-taker w n m apart is.here is.there is.lengths x y y1 (Full msg))
        ∙ write-box w n m apart is.here is.there is.lengths x y1 (Full msg) (Hand msg))

    -- and the message is handed
    pub hand-on : (x y z : Node) (msg : Message) (done : ℕ) → y.hand ≡ Some n → ((source : Option ℕ) → z ≡ deliver y n msg source) →
        ((source : Option ℕ) → message_lacks_serials y n msg source ≡ false) → OnWay w0 done (at x y (Hand msg)) (next_node w n) →
        OnWay w0 (done + 1) (at x z Empty) (next_node w m)
    unfolding set_node set_mail turn_lacks_serials hand_lacks_serials is_idle after_act after_hand hand_message
    hand-on x y z msg done held taken allowed on =
        let u = at x y (Hand msg) in
        let here = node-taker w n m apart is.here is.there is.lengths x y (Hand msg) in
        let box = box-here w n m apart is.here is.there is.lengths x y (Hand msg) in
        let first : next_at u m ≡ acts.Hand n = hand_act u m n (ap (λ (z : Node). z.hand) here ∙ held) in
        go-on w0 u (at x z Empty) done (next_node w n) m (acts.Hand n) on (taker-next x y (Hand msg) (ap is_idle first)) is.there first
        (ap (λ b. hand_lacks_serials u m n (hand_message b)) box
        ∙ ap (λ z. message_lacks_serials z n msg (source_for u msg)) here ∙ allowed (source_for u msg))
        (ap (λ b. after_hand u m n (hand_message b)) box
        ∙ ap (λ z. set_mail (set_node u m (deliver z n msg (source_for u msg))) (way u n m) Empty) here
        ∙ ap (λ z. set_mail (set_node u m z) (way u n m) Empty) (sym (taken (source_for u msg)))
        ∙ ap (λ v. set_mail v (way u n m) Empty) (write-taker w n m apart is.here is.there is.lengths x y z (Hand msg))
        ∙ write-box w n m apart is.here is.there is.lengths x z (Hand msg) Empty)

    -- all four, of the item that comes and the one that leaves after it
    pub passed-on : (x y z : Node) (msg : Message) (serial : ℕ) (link : LinkEnd) (sends : SendsNext x serial link) → link.other ≡ m →
        x.count ≡ w.count → x.next_peripheral ≤ no_number → y.hand ≡ Some n → ((source : Option ℕ) → z ≡ deliver y n msg source) →
        ((source : Option ℕ) → message_lacks_serials y n msg source ≡ false) → z.count ≡ w.count → z.hand ≡ None → (done : ℕ) →
        OnWay w0 done (at x y (Hand msg)) (next_node w m) →
        OnWay w0 (done + 4) (at (sent_node x serial link sends) (record z { hand = Some n }) (Hand (sent_message x serial link sends)))
        (next_node w m)
    passed-on x y z msg serial link sends to counted low held taken allowed count free done on =
        let z1 = waiting_node x serial link sends in
        let one = send-on x y serial link sends to counted (Hand msg) done (next_node w m) low (sender-next x y (Hand msg)) on in
        let two = hand-on z1 y z msg (done + 1) held taken allowed one in
        let three = post-on x z serial link sends to counted (done + 1 + 1) (next_node w m) (sender-next z1 z Empty) two in
        let four = look-on (sent_node x serial link sends) z (sent_message x serial link sends) (done + 1 + 1 + 1) count free three in
        subst (λ k. OnWay w0 k (at (sent_node x serial link sends) (record z { hand = Some n }) (Hand (sent_message x serial link sends)))
        (next_node w m)) (omega arith) four

  -- the first item leaves, is posted and looked at, while the taker is quiet
  pub passed-first : (serial : ℕ) (link : LinkEnd) (sends : SendsNext (node_at w n) serial link) → link.other ≡ m →
      (node_at w n).next_peripheral ≤ no_number → Quiet (node_at w m) → OnWay w 0 w 0 →
      OnWay w 3 (at (sent_node (node_at w n) serial link sends) (record (node_at w m) { hand = Some n })
      (Hand (sent_message (node_at w n) serial link sends))) (next_node w m)
  unfolding set_node set_mail is_full
  passed-first serial link sends to low quiet on =
      let x = node_at w n in
      let y = node_at w m in
      let cx = is.counts n is.here in
      let cy = is.counts m is.there in
      let z1 = waiting_node x serial link sends in
      let one = send-on w x y serial link sends to cx Empty 0 0 low
      (λ busy. first-busy (at x y Empty) n is.here busy (idle-but x y Empty refl cy quiet))
      (subst (λ v. OnWay w 0 v 0) (sym (pair-start w n m apart is.here is.there is.lengths Empty is.box)) on) in
      let two = post-on w x y serial link sends to cx 1 (next_node w n)
      (λ busy. next-busy (at z1 y Empty) n n is.here is.here busy (λ k l ne _. idle-but z1 y Empty refl cy quiet k l ne)) one in
      look-on w (sent_node x serial link sends) y (sent_message x serial link sends) 2 cy is.hand two

  -- the world with a message in the taker's hand: as it was, behind a send, and behind a hand and a send
  pub held-still : (msg : Message) → with_hand w n m msg ≡ at (node_at w n) (record (node_at w m) { hand = Some n }) (Hand msg)
  unfolding set_node set_mail node_at
  held-still msg = λ j. set_mail (record w {
    nodes = put_place (bare_node 0 0) (sym (put-same (bare_node 0 0) w.nodes n (omega (arith, is.here, is.lengths.nodes))) j) m
        (record (node_at w m) { hand = Some n });
  }) (way w n m) (Hand msg)

  behind-sender : (x : Node) → node_at (set_node w n x) m ≡ node_at w m
  behind-sender x =
      let other : nat_eq m n ≡ false = grind (arith, apart, nat_tests) in
      node-set_node w n x m ∙ ap (λ c. cond c x (node_at w m)) other

  pub held-first : (x : Node) (msg : Message) → with_hand (set_node w n x) n m msg ≡ at x (record (node_at w m) { hand = Some n }) (Hand msg)
  unfolding set_node set_mail
  held-first x msg =
      ap (λ (z : Node). set_mail (set_node (set_node w n x) m (record z { hand = Some n })) (way w n m) (Hand msg)) (behind-sender x)

  pub held-next : (x z : Node) (msg : Message) → with_hand (set_node (set_node w m z) n x) n m msg ≡ at x (record z { hand = Some n }) (Hand msg)
  unfolding set_node set_mail
  held-next x z msg =
      let other : nat_eq m n ≡ false = grind (arith, apart, nat_tests) in
      let z1 : Node = record z { hand = Some n } in
      let there : node_at (set_node (set_node w m z) n x) m ≡ z =
      node-set_node (set_node w m z) n x m ∙ ap (λ c. cond c x (node_at (set_node w m z) m)) other ∙ node-here w m z in
      ap (λ (y : Node). set_mail (set_node (set_node (set_node w m z) n x) m (record y { hand = Some n })) (way w n m) (Hand msg)) there
      ∙ (λ j. record (set_mail (set_node (set_node w n x) m z1) (way w n m) (Hand msg)) {
        nodes = (ap (λ ns. put_place (bare_node 0 0) ns m z1) (put-apart (bare_node 0 0) w.nodes m n z x (λ e. apart (sym e)))
            ∙ put-twice (bare_node 0 0) (put_place (bare_node 0 0) w.nodes n x) m z z1) j;
      })

  -- so code leads on from a message in hand to the next
  pub passed-walk : (serial : ℕ) (link : LinkEnd) (sends : SendsNext (node_at w n) serial link) → link.other ≡ m →
      (node_at w n).next_peripheral ≤ no_number → (over : LinkEnd) (number : ℕ) (item : Item) (z : Node) →
      ((source : Option ℕ) → z ≡ deliver (node_at w m) n (lone_message over number item) source) →
      ((source : Option ℕ) → message_lacks_serials (node_at w m) n (lone_message over number item) source ≡ false) →
      (w0 : World) (done : ℕ) → Walk w0 (with_hand w n m (lone_message over number item)) done (next_node w m) →
      Walk w0 (with_hand (set_node (set_node w m z) n (sent_node (node_at w n) serial link sends)) n m
      (sent_message (node_at w n) serial link sends)) (done + 4) (next_node w m)
  unfolding set_node set_mail fits fits_item
  passed-walk serial link sends to low over number item z taken allowed w0 done walk =
      let x = node_at w n in
      let y = node_at w m in
      let held : Node = record y { hand = Some n } in
      let msg = lone_message over number item in
      let unheld = item_unheld y n over.link (opposite over.side) number item None is.hand in
      let on = on_way-walked w0 (with_hand w n m msg) done (next_node w m) walk (next-place w (with_hand w n m msg) m refl) in
      let after = passed-on w0 x held z msg serial link sends to (is.counts n is.here) low refl
      (λ source. taken source ∙ sym (item_unheld y n over.link (opposite over.side) number item source is.hand).0)
      (λ source. allowed source)
      (ap (λ (k : Node). k.count) (taken None) ∙ unheld.2 ∙ is.counts m is.there)
      (ap (λ (k : Node). k.hand) (taken None) ∙ unheld.1) done
      (subst (λ u. OnWay w0 done u (next_node w m)) (held-still msg) on) in
      subst (λ u. Walk w0 u (done + 4) (next_node w m)) (sym (held-next (sent_node x serial link sends) z (sent_message x serial link sends)))
      (walked w0 _ (done + 4) (next_node w m) after)

  -- and from the start to the first message in hand
  pub first-walk : {serial : ℕ} {link : LinkEnd} {sends : SendsNext (node_at w n) serial link} {x : Node} {number : ℕ} {item : Item} → link.other ≡ m →
      HasSent pop_out sends x number item → Quiet (node_at w m) →
      Walk w (with_hand (set_node w n x) n m (lone_message link number item)) 3 (next_node w m)
  first-walk {serial} {link} {sends} to sent quiet =
      subst (λ u. Walk w u 3 (next_node w m))
      (sym ((λ j. with_hand (set_node w n (sent.behind j)) n m (told sent j)) ∙ held-first (sent_node (node_at w n) serial link sends) _))
      (walked w _ 3 (next_node w m) (passed-first serial link sends to sent.low quiet (on_way-start w)))

-- a node that code wrote as it was
pub rewritten : {v w : World} → v ≡ w → (m : ℕ) (z : Node) → HasLengths w → m < w.count → z ≡ node_at v m → set_node v m z ≡ w
unfolding set_node node_at
rewritten {w = w} view m z has l same =
    let there = same ∙ ap (λ (u : World). node_at u m) view in
    ap (λ (u : World). set_node u m z) view ∙ (λ j. record w {
      nodes = (ap (put_place (bare_node 0 0) w.nodes m) there ∙ put-same (bare_node 0 0) w.nodes m (omega (arith, l, has.nodes))) j;
    })

-- the sender is as it was behind a change of the taker
pub behind-taker : (w : World) (n m : ℕ) (z : Node) → (n ≡ m → ⊥) → node_at (set_node w m z) n ≡ node_at w n
behind-taker w n m z apart =
    let other : nat_eq n m ≡ false = grind (arith, apart, nat_tests) in
    node-set_node w m z n ∙ ap (λ c. cond c z (node_at w n)) other

-- items may pass on behind a change of one of the two nodes, if the taker's hand is free then
passing-behind : (w : World) (n m p : ℕ) (x : Node) → IsPassing w n m → p < w.count → ((k : ℕ) → (k ≡ n → ⊥) → (k ≡ m → ⊥) → k ≡ p → ⊥) →
    x.count ≡ w.count → (node_at (set_node w p x) m).hand ≡ None → IsPassing (set_node w p x) n m
unfolding set_node mail_at
passing-behind w n m p x is here neither counted free = record {
  lengths = lengths-kept refl p x is.lengths here;
  counts = λ k l. go k l (nat_eq k p) refl;
  mail = is.mail;
  here = is.here;
  there = is.there;
  others = λ k l kn km. subst (λ z. is_quiet z ≡ true) (sym (behind-taker w k p x (neither k kn km))) (is.others k l kn km);
  box = is.box;
  hand = free;
}
  where
    go : (k : ℕ) → k < w.count → (c : Bool) → nat_eq k p ≡ c → (node_at (set_node w p x) k).count ≡ w.count
    go k l true e = ap (λ (z : Node). z.count) (node-set_node w p x k ∙ ap (λ c. cond c x (node_at w k)) e) ∙ counted
    go k l false e = ap (λ (z : Node). z.count) (node-set_node w p x k ∙ ap (λ c. cond c x (node_at w k)) e) ∙ is.counts k l

-- so behind one of the sender
pub passing-sender : (w : World) (n m : ℕ) (x : Node) → IsPassing w n m → (n ≡ m → ⊥) → x.count ≡ w.count → IsPassing (set_node w n x) n m
passing-sender w n m x is apart counted =
    passing-behind w n m n x is is.here (λ k kn _. kn) counted (ap (λ (z : Node). z.hand) (behind-taker w m n x (λ e. apart (sym e))) ∙ is.hand)

-- and behind one of the taker
pub passing-taker : (w : World) (n m : ℕ) (z : Node) → IsPassing w n m → z.count ≡ w.count → z.hand ≡ None → IsPassing (set_node w m z) n m
passing-taker w n m z is counted free =
    passing-behind w n m m z is is.there (λ k _ km. km) counted (ap (λ (y : Node). y.hand) (node-here w m z) ∙ free)

-- they may where a node has to send one, and nothing else is to be done
pub passing-alone : (w : World) (n serial : ℕ) (link : LinkEnd) → IsRegular w → IsLoneSender w n serial link → IsPassing w n link.other
passing-alone w n serial link regular lone = record {
  lengths = regular.lengths;
  counts = λ k l. (regular.sound k l).count_is;
  mail = lone.mail;
  here = lone.here;
  there = lone.there;
  others = λ k l kn _. lone.others k l kn;
  box = lone.box;
  hand = go (nat_eq link.other n) refl;
}
  where
    go : (c : Bool) → nat_eq link.other n ≡ c → (node_at w link.other).hand ≡ None
    go true e = let same : n ≡ link.other = grind (arith, e, nat_tests) in
        subst (λ k. (node_at w k).hand ≡ None) same lone.sends.hand
    go false e =
        (quiet_is (node_at w link.other) (lone.others link.other lone.there (λ same. grind (arith, e, same, nat_tests)))).hand

-- code has handed an item to the taker: so it leads on
module _ (w u : World) (n m : ℕ) (over : LinkEnd) (number : ℕ) (item : Item) (is : IsPassing w n m)
    (handed : (source : Option ℕ) → u ≡ set_node w m (deliver (node_at w m) n (lone_message over number item) source)) where
  abbrev handed_node : Node
  handed_node = node_at u m

  pub handed-node : (source : Option ℕ) → handed_node ≡ deliver (node_at w m) n (lone_message over number item) source
  handed-node source = ap (λ v. node_at v m) (handed source) ∙ node-here w m _

  pub handed-world : u ≡ set_node w m handed_node
  handed-world = handed None ∙ ap (set_node w m) (sym (handed-node None))

  pub handed-passing : IsPassing u n m
  handed-passing =
      let unheld = item_unheld (node_at w m) n over.link (opposite over.side) number item None is.hand in
      subst (λ v. IsPassing v n m) (sym handed-world)
      (passing-taker w n m handed_node is (ap (λ (k : Node). k.count) (handed-node None) ∙ unheld.2 ∙ is.counts m is.there)
      (ap (λ (k : Node). k.hand) (handed-node None) ∙ unheld.1))

  pub handed-counts : u.count ≡ w.count
  unfolding set_node
  handed-counts = ap (λ (v : World). v.count) handed-world

  pub handed-sender : (n ≡ m → ⊥) → node_at u n ≡ node_at w n
  handed-sender apart = ap (λ v. node_at v n) handed-world ∙ behind-taker w n m handed_node apart

  pub handed-walk : (n ≡ m → ⊥) → ((source : Option ℕ) →
      message_lacks_serials (node_at w m) n (lone_message over number item) source ≡ false) → (serial : ℕ) (link : LinkEnd) →
      (sends : SendsNext (node_at w n) serial link) → link.other ≡ m → (node_at w n).next_peripheral ≤ no_number → (w0 : World) (done : ℕ) →
      Walk w0 (with_hand w n m (lone_message over number item)) done (next_node w m) →
      Walk w0 (with_hand (set_node u n (sent_node (node_at w n) serial link sends)) n m (sent_message (node_at w n) serial link sends))
      (done + 4) (next_node u m)
  handed-walk apart allowed serial link sends to low w0 done walk =
      subst (λ k. Walk w0 (with_hand (set_node u n (sent_node (node_at w n) serial link sends)) n m
      (sent_message (node_at w n) serial link sends)) (done + 4) k) (ap (λ c. if nat_lt (m + 1) c then m + 1 else 0) (sym handed-counts))
      (subst (λ v. Walk w0 (with_hand (set_node v n (sent_node (node_at w n) serial link sends)) n m
      (sent_message (node_at w n) serial link sends)) (done + 4) (next_node w m)) (sym handed-world)
      (passed-walk w n m is apart serial link sends to low over number item handed_node handed-node allowed w0 done walk))

-- code finds such a node
module _ {x old : Node} {serial : ℕ} {link : LinkEnd} (sends : SendsNext x serial link) (same : old ≡ x) where
  found-here : router_in old serial ≡ Some (sender x serial link sends)
  found-here = ap (λ k. router_in k serial) same ∙ sends.sender.here

  -- there is an item
  pub found-item : IsSomeAnd (router_in old serial) (λ (r : Router). is_some (current_item r.out_queue) ≡ true)
  found-item = subst (λ o. IsSomeAnd o (λ (r : Router). is_some (current_item r.out_queue) ≡ true)) (sym found-here)
      (ap is_some (sent_first x serial link sends).current)

  -- and code that takes it has sent it
  pub has-sent : {change : Router → Router} {new : Node} {number : ℕ} {item : Item} →
      ((r : Router) → router_in old serial ≡ Some r → new ≡ with_router old serial (change r)) →
      ((r : Router) → router_in old serial ≡ Some r → number ≡ r.out_queue.current) →
      ((r : Router) → router_in old serial ≡ Some r → Some item ≡ current_item r.out_queue) → old.next_peripheral ≤ no_number →
      HasSent change sends new number item
  has-sent {change} {item = item} is first holds low =
      let one = sender x serial link sends in
      let both : Some item ≡ Some (sent_first x serial link sends).item = holds one found-here ∙ (sent_first x serial link sends).current in
      record {
        behind = is one found-here ∙ ap (λ k. with_router k serial (change one)) same;
        number_is = first one found-here;
        item_is = cc;
        low = subst (λ (k : Node). k.next_peripheral ≤ no_number) same low;
      }
