-- A lone parcel takes its way in six acts: a send out, a post, a look, a rest of the router that sent it, a hand, and a rest of the router
-- that took it.
use Rattle.std.specs.Prelude.{◌≡◌, ◌≤◌, ◌<◌, ℕ, Bool, true, false, nat_eq, Some, None}
use Rattle.std.specs.Prelude.{refl}
use Rattle.std.proofs.Common.{arith, ap, sym, subst, ◌∙◌}
use Rattle.std.proofs.lemmas.Bool.Decides.{nat_tests}
use Rattle.std.specs.FinMap.{get}
use Rattle.ipcz_world.proofs.Vocabulary.{Node, Router, World, Message, Empty, commit, opposite, with_router, node_at, router_in, set_mail, set_node}
use Rattle.ipcz_world.proofs.Vocabulary.{way, LinkEnd, no_number, Plain, pop_out, rest, flagged_router, act_lacks_serials, are_empty, close_turn}
use Rattle.ipcz_world.proofs.Vocabulary.{router_turn, node_limit, Mail, IsLone, with_hand, next_node, IsRegular, is_full, is_idle, next_at}
use Rattle.ipcz_world.proofs.Vocabulary.{turn_lacks_serials, SendsNext, IsPassing}
use Rattle.ipcz_router.specs.declared.act.RouterAct.TheVariants as router_acts
use Rattle.ipcz_router.specs.Calls.{accept_from_outward}
use Rattle.ipcz_router.proofs.LoneRouters.{still_rests}
use Rattle.ipcz_node.specs.declared.act.Act.TheVariants as acts
use Rattle.ipcz_node.specs.Node.{found}
use Rattle.ipcz_node.specs.Lone.{TakesItem}
use Rattle.ipcz_node.proofs.Carrying.{rests_without}
use Rattle.ipcz_node.proofs.LoneNodes.{OnlyFlagged, none_flagged, rested, stands, still_flagged, takes_freely, takes_it}
use Rattle.ipcz_world.specs.declared.mail.Mail.TheVariants.{Hand}
use Rattle.ipcz_world.specs.FastPath.{HasCome}
use Rattle.ipcz_world.proofs.code.LoneWorlds.{sends-last, Quiet, quiet_is, own_act, pair, pair-box}
use Rattle.ipcz_world.proofs.code.LoneWorlds.{node-sender, node-taker, none-elsewhere, none-to}
use Rattle.ipcz_world.proofs.code.LoneWorlds.{write-sender, write-taker}
use Rattle.ipcz_world.proofs.acts.Updating.{node-here, set-twice}
use Rattle.ipcz_world.proofs.code.Visiting.{OnWay}
use Rattle.ipcz_world.proofs.facts.Finding.{found_there}
use Rattle.ipcz_world.proofs.code.GoingOn.{go-on, next-busy, router-acts}
use Rattle.ipcz_world.proofs.code.LoneWorlds.{as_sender}
use Rattle.ipcz_world.proofs.code.Passing.{hand-on, idle-others, passed-first, passing-alone, sent_message}

-- if no router is flagged, none is but whichever
none-flagged : (x : Node) (s : ℕ) → flagged_router x ≡ None → OnlyFlagged x.routers s
none-flagged x s none q r here up =
    let t = found_there x (λ r. r.flagged) q r here up in
    let both : None ≡ Some t.0 = sym none ∙ t.1 in
    absurd (apart both)
  where
    apart : {X : Type 0} {f : X} → None ≡ Some f → ⊥
    apart e = cc

module _ (w : World) (n serial : ℕ) (link : LinkEnd) (is : IsRegular w) (lone : IsLone w n serial link)
    (apart : n ≡ link.other → ⊥) (low : (node_at w n).next_peripheral ≤ no_number) where
  abbrev m : ℕ
  m = link.other

  abbrev x0 : Node
  x0 = node_at w n

  abbrev y0 : Node
  y0 = node_at w m

  abbrev r0 : Router
  r0 = lone.sends.sender.router

  abbrev r1 : Router
  r1 = pop_out r0

  abbrev sends : SendsNext x0 serial link
  sends = (as_sender lone).sends

  abbrev msg : Message
  msg = sent_message x0 serial link sends

  abbrev x2 : Node
  x2 = with_router x0 serial r1

  abbrev x3 : Node
  x3 = with_router x0 serial (rest r1)

  abbrev y1 : Node
  y1 = record y0 { hand = Some n }

  -- the world with these two nodes and this mailbox
  abbrev at : Node → Node → Mail → World
  at x y b = pair w n m x y b

  few : w.count ≤ node_limit
  few = is.lengths.few

  passing : IsPassing w n m
  passing = passing-alone w n serial link is (as_sender lone)

  y0-quiet : Quiet y0
  y0-quiet = quiet_is y0 (lone.others m lone.there (λ e. apart (sym e)))

  counts-x : x0.count ≡ w.count
  counts-x = (is.sound n lone.here).count_is

  counts-y : y0.count ≡ w.count
  counts-y = (is.sound m lone.there).count_is

  module _ (x y : Node) (b : Mail) where
    -- the sender acts of its own if its hand and its outboxes are empty
    own-sender : x.count ≡ w.count → x.hand ≡ None → x.outboxes ≡ x0.outboxes →
        next_at (at x y b) n ≡ close_turn x.pending (router_turn (flagged_router x))
    unfolding set_node set_mail
    own-sender counted hand boxes =
        let same = node-sender w n m apart lone.here lone.there is.lengths x y b in
        own_act (at x y b) n few (ap (λ (z : Node). z.count) same ∙ counted)
        (λ i li. none-elsewhere w n m apart lone.here lone.there is.lengths x y b lone.mail n i lone.here apart)
        (ap (λ (z : Node). z.hand) same ∙ hand) (ap (λ (z : Node). are_empty z.outboxes) same ∙ ap are_empty boxes ∙ lone.sends.outboxes)
        ∙ ap (λ (z : Node). close_turn z.pending (router_turn (flagged_router z))) same

    -- and so does the taker, if its mailbox isn't full
    own-taker : is_full b ≡ false → y.count ≡ w.count → y.hand ≡ None → y.outboxes ≡ y0.outboxes →
        next_at (at x y b) m ≡ close_turn y.pending (router_turn (flagged_router y))
    unfolding set_node set_mail
    own-taker clear counted hand boxes =
        let same = node-taker w n m apart lone.here lone.there is.lengths x y b in
        own_act (at x y b) m few (ap (λ (z : Node). z.count) same ∙ counted)
        (λ i li. none-to w n m apart lone.here lone.there is.lengths x y b lone.mail clear i)
        (ap (λ (z : Node). z.hand) same ∙ hand) (ap (λ (z : Node). are_empty z.outboxes) same ∙ ap are_empty boxes ∙ y0-quiet.boxes)
        ∙ ap (λ (z : Node). close_turn z.pending (router_turn (flagged_router z))) same

  -- the sender's router stays found while it is flagged
  flagged-x2 : flagged_router x2 ≡ Some (found serial r1)
  flagged-x2 = still_flagged x0.routers serial r1 lone.sends.sender.others lone.sends.sender.flagged

  flagged-x3 : flagged_router x3 ≡ None
  flagged-x3 = none_flagged x0.routers serial (rest r1) lone.sends.sender.others refl

  -- the item is sent, posted and looked at
  on-3 : OnWay w 0 w 0 → OnWay w 3 (at x2 y1 (Hand msg)) (next_node w m)
  on-3 = passed-first w n m passing apart serial link sends refl low y0-quiet

  -- the sender's router rests
  on-4 : OnWay w 3 (at x2 y1 (Hand msg)) (next_node w m) → OnWay w 4 (at x3 y1 (Hand msg)) (next_node w n)
  unfolding set_node set_mail turn_lacks_serials router_turn close_turn is_idle
  on-4 on =
      let u = at x2 y1 (Hand msg) in
      let here = node-sender w n m apart lone.here lone.there is.lengths x2 y1 (Hand msg) in
      let first : next_at u n ≡ acts.Router serial router_acts.Rest =
      own-sender x2 y1 (Hand msg) counts-x lone.sends.hand refl ∙ ap (λ es. close_turn es (router_turn (flagged_router x2))) lone.sends.pending
      ∙ ap router_turn flagged-x2 ∙ ap (acts.Router serial) (still_rests r1 (sends-last lone).still) in
      go-on w u (at x3 y1 (Hand msg)) 3 (next_node w m) n (acts.Router serial router_acts.Rest) on
      (next-busy u m n lone.there lone.here (ap is_idle first) (λ k l km kn. idle-others w n m passing apart x2 y1 (Hand msg) k l kn km))
      lone.here first
      (ap (λ z. act_lacks_serials z (acts.Router serial router_acts.Rest)) here ∙ rests_without x2 serial low)
      (router-acts u n serial r1 router_acts.Rest (ap (λ (z : Node). get z.routers serial) here ∙ stands x0 serial r1) refl
      ∙ ap (λ z. set_node u n (commit z (acts.Router serial router_acts.Rest) Plain)) here
      ∙ ap (set_node u n) (sym (rested x0 serial r1))
      ∙ write-sender w n m apart lone.here lone.there is.lengths x2 x3 y1 (Hand msg))

  -- so far, whatever becomes of the parcel at the taker
  pub sent : OnWay w 0 w 0 → OnWay w 4 (at x3 y1 (Hand msg)) (next_node w n)
  sent on = on-4 (on-3 on)

  -- that is where code leaves it which finds no room for it
  pub left : (x y : Node) → x ≡ x3 → y ≡ y0 → with_hand (set_node (set_node w n x) m y) n m msg ≡ at x3 y1 (Hand msg)
  unfolding set_node set_mail
  left x y ex ey =
      (λ j. with_hand (set_node (set_node w n (ex j)) m (ey j)) n m msg)
      ∙ ap (λ (z : Node). set_mail (set_node (set_node (set_node w n x3) m y0) m (record z { hand = Some n })) (way w n m) (Hand msg))
      (node-here (set_node w n x3) m y0)
      ∙ ap (λ v. set_mail v (way w n m) (Hand msg)) (set-twice (set_node w n x3) m y0 y1)

  -- the taker takes it
  module _ (y : Node) (takes : TakesItem y0 link.link (opposite link.side) r0.out_queue.current (sends-last lone).item y) where
    abbrev q1 : Router
    q1 = accept_from_outward takes.router r0.out_queue.current (sends-last lone).item

    abbrev y2 : Node
    y2 = with_router y0 takes.serial q1

    -- the message is handed
    on-5 : OnWay w 4 (at x3 y1 (Hand msg)) (next_node w n) → OnWay w 5 (at x3 y2 Empty) (next_node w m)
    on-5 = hand-on w n m passing apart w x3 y1 y2 msg 4 refl
        (λ source. takes_it y0 y link.link (opposite link.side) r0.out_queue.current n (sends-last lone).item source takes
        (sends-last lone).alone y0-quiet.hand)
        (λ source. takes_freely y0 y link.link (opposite link.side) r0.out_queue.current n (sends-last lone).item source takes
        (sends-last lone).alone)

    idle-after : (k : ℕ) → k < w.count → (k ≡ m → ⊥) → is_idle (next_at (at x3 y2 Empty) k) ≡ true
    unfolding is_idle router_turn close_turn
    idle-after k l ne = go (nat_eq k n) refl
      where
        sender : next_at (at x3 y2 Empty) n ≡ acts.Idle
        sender =
            own-sender x3 y2 Empty counts-x lone.sends.hand refl ∙ ap (λ es. close_turn es (router_turn (flagged_router x3))) lone.sends.pending
            ∙ ap router_turn flagged-x3

        go : (c : Bool) → nat_eq k n ≡ c → is_idle (next_at (at x3 y2 Empty) k) ≡ true
        go true e = let same : k ≡ n = grind (arith, e, nat_tests) in
            ap (λ k. is_idle (next_at (at x3 y2 Empty) k)) same ∙ ap is_idle sender
        go false e = idle-others w n m passing apart x3 y2 Empty k l (λ same. grind (arith, e, same, nat_tests)) ne

    -- its router rests
    on-6 : OnWay w 5 (at x3 y2 Empty) (next_node w m) → OnWay w 6 (at x3 y Empty) (next_node w m)
    unfolding set_node set_mail turn_lacks_serials router_turn close_turn is_idle is_full
    on-6 on =
        let u = at x3 y2 Empty in
        let here = node-taker w n m apart lone.here lone.there is.lengths x3 y2 Empty in
        let flagged : flagged_router y2 ≡ Some (found takes.serial q1) =
        still_flagged y0.routers takes.serial q1 (none-flagged y0 takes.serial y0-quiet.rests) refl in
        let first : next_at u m ≡ acts.Router takes.serial router_acts.Rest =
        own-taker x3 y2 Empty refl counts-y y0-quiet.hand refl ∙ ap (λ es. close_turn es (router_turn (flagged_router y2))) y0-quiet.pending
        ∙ ap router_turn flagged ∙ ap (acts.Router takes.serial) (still_rests q1 takes.takes.still) in
        go-on w u (at x3 y Empty) 5 (next_node w m) m (acts.Router takes.serial router_acts.Rest) on
        (next-busy u m m lone.there lone.there (ap is_idle first) (λ k l ne _. idle-after k l ne))
        lone.there first
        (ap (λ z. act_lacks_serials z (acts.Router takes.serial router_acts.Rest)) here ∙ rests_without y2 takes.serial takes.links)
        (router-acts u m takes.serial q1 router_acts.Rest (ap (λ (z : Node). get z.routers takes.serial) here ∙ stands y0 takes.serial q1) refl
        ∙ ap (λ z. set_node u m (commit z (acts.Router takes.serial router_acts.Rest) Plain)) here
        ∙ ap (set_node u m) (sym (rested y0 takes.serial q1) ∙ ap (with_router y0 takes.serial) (sym takes.takes.after) ∙ sym takes.changed)
        ∙ write-taker w n m apart lone.here lone.there is.lengths x3 y2 y Empty)

    -- all six acts
    pub carried : OnWay w 0 w 0 → OnWay w 6 (set_node (set_node w n x3) m y) (next_node w m)
    carried on = subst (λ v. OnWay w 6 v (next_node w m))
        (pair-box w n m apart lone.here lone.there is.lengths x3 y Empty lone.box) (on-6 (on-5 (sent on)))

    -- the router across has the item
    pub came : (x : Node) → HasCome w (set_node (set_node w n x) m y) n serial link
    came x = record {
      sender = r0;
      sends = lone.sends.sender.here;
      item = (sends-last lone).item;
      sent = (sends-last lone).current;
      taker = takes.serial;
      before = takes.router;
      after = takes.after;
      here = takes.here;
      takes = takes.takes;
      there = ap (λ q. router_in q takes.serial) (node-here (set_node w n x) m y ∙ takes.changed) ∙ stands y0 takes.serial takes.after;
    }

    abbrev y3 : Node
    y3 = with_router y0 takes.serial (rest q1)

    y-is : y ≡ y3
    y-is = takes.changed ∙ ap (with_router y0 takes.serial) takes.takes.after

    idle-sender : is_idle (next_at (at x3 y3 Empty) n) ≡ true
    unfolding is_idle router_turn close_turn
    idle-sender = ap is_idle (own-sender x3 y3 Empty counts-x lone.sends.hand refl
        ∙ ap (λ es. close_turn es (router_turn (flagged_router x3))) lone.sends.pending ∙ ap router_turn flagged-x3)

    idle-taken : is_idle (next_at (at x3 y3 Empty) m) ≡ true
    unfolding is_idle is_full router_turn close_turn
    idle-taken =
        let rests : flagged_router y3 ≡ None =
        none_flagged y0.routers takes.serial (rest q1) (none-flagged y0 takes.serial y0-quiet.rests) refl in
        ap is_idle (own-taker x3 y3 Empty refl counts-y y0-quiet.hand refl
        ∙ ap (λ es. close_turn es (router_turn (flagged_router y3))) y0-quiet.pending ∙ ap router_turn rests)

    idle-last : (k : ℕ) → k < w.count → is_idle (next_at (at x3 y3 Empty) k) ≡ true
    idle-last k l = go (nat_eq k n) refl (nat_eq k m) refl
      where
        go : (c : Bool) → nat_eq k n ≡ c → (d : Bool) → nat_eq k m ≡ d → is_idle (next_at (at x3 y3 Empty) k) ≡ true
        go true e d f = let same : k ≡ n = grind (arith, e, nat_tests) in
            ap (λ k. is_idle (next_at (at x3 y3 Empty) k)) same ∙ idle-sender
        go false e true f = let same : k ≡ m = grind (arith, f, nat_tests) in
            ap (λ k. is_idle (next_at (at x3 y3 Empty) k)) same ∙ idle-taken
        go false e false f = idle-others w n m passing apart x3 y3 Empty k l (λ same. grind (arith, e, same, nat_tests)) (λ same. grind (arith, f, same, nat_tests))

    -- and then no node has an act
    pub idle-behind : (k : ℕ) → k < w.count → is_idle (next_at (set_node (set_node w n x3) m y) k) ≡ true
    idle-behind k l = subst (λ v. is_idle (next_at v k) ≡ true)
        (ap (λ z. at x3 z Empty) (sym y-is) ∙ pair-box w n m apart lone.here lone.there is.lengths x3 y Empty lone.box) (idle-last k l)
