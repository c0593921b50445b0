-- An item passes within a node: it leaves its router, is posted, looked at and handed, while no other node has an act. Between items routers rest.
use Rattle.std.specs.Prelude.{◌≡◌, ◌≤◌, ◌<◌, ℕ, ◌+◌, Bool, true, false, cond, nat_eq, nat_lt, Option, Some, None, List, [], ◌∷◌, is_some, refl}
use Rattle.std.proofs.Common.{arith, ap, sym, subst, subst₂, ◌∙◌, inl, inr}
use Rattle.std.proofs.lemmas.Bool.Decides.{nat_tests}
use Rattle.std.specs.FinMap.{get}
use Rattle.ipcz_world.proofs.Vocabulary.{Node, World, Message, Empty, bare_node, commit, opposite, outbox, after_act, hand_message, mail_at, node_at}
use Rattle.ipcz_world.proofs.Vocabulary.{put_place, set_mail, set_node, way, LinkEnd, no_number, Plain, flagged_router, on_router, send, rest, apply}
use Rattle.ipcz_world.proofs.Vocabulary.{leaves_by, act_lacks_serials, are_empty, close_turn, commit_router, first_of, has_mail_for, keep_or_drop}
use Rattle.ipcz_world.proofs.Vocabulary.{post_of, router_turn, deliver, fits, SendsNext, node_limit, Mail, IsPassing, with_hand, next_node}
use Rattle.ipcz_world.proofs.Vocabulary.{after_hand, after_look, after_post, full_message, is_clear, is_full, is_idle, next_at, turn_lacks_serials}
use Rattle.ipcz_world.proofs.Vocabulary.{Item, Walk, pop_out, source_for}
use Rattle.ipcz_router.specs.declared.act.RouterAct.TheVariants as router_acts
use Rattle.ipcz_node.specs.declared.act.Act.TheVariants as acts
use Rattle.ipcz_node.specs.Node.{Found, router_in, with_router}
use Rattle.ipcz_base.specs.declared.end.End.{End}
use Rattle.ipcz_router.specs.Router.{Router}
use Rattle.ipcz_router.specs.ActEffects.{output_of}
use Rattle.ipcz_node.specs.Hands.{fits_item, message_lacks_serials}
use Rattle.ipcz_node.specs.Lone.{RestsNext}
use Rattle.ipcz_node.proofs.LoneNodes.{first_freely, first_sent, item_unheld}
use Rattle.ipcz_world.specs.declared.mail.Mail.TheVariants.{Full, Hand}
use Rattle.ipcz_world.specs.FastPath.{lone_message}
use Rattle.ipcz_world.specs.Turns.{hand_lacks_serials}
use Rattle.ipcz_world.specs.Visiting.{IsNextBusy, IsPlace}
use Rattle.ipcz_world.proofs.acts.Updating.{node-here, put-twice, set-twice}
use Rattle.ipcz_world.proofs.code.GoingOn.{go-on, router-acts}
use Rattle.ipcz_world.proofs.code.LoneWorlds.{Quiet, hand_act, look_act, own_act, post_act, quiet_idle, quiet_is, way-apart, way-from, way-within}
use Rattle.ipcz_world.proofs.code.Passing.{HasSent, box-others, box-there, mail-there, own_send, passing-taker, posted, sender, sent_first, sent_message}
use Rattle.ipcz_world.proofs.code.Passing.{sent_node, told, waiting_node}
use Rattle.ipcz_world.proofs.code.Slots.{put-same}
use Rattle.ipcz_world.proofs.code.Visiting.{OnWay, on_way-walked, walked}
use Rattle.ipcz_world.proofs.facts.Finding.{found_tells}
use Rattle.ipcz_world.proofs.frames.Frames.{mail-set_mail, node-set_mail, node-set_node}

-- the world with this node, and this mailbox from it to itself
abbrev pub single : World → ℕ → Node → Mail → World
single w n x b = set_mail (set_node w n x) (way w n n) b

-- if only one node has an act, it is next, wherever a pass stands
alone-next : (u : World) (from n : ℕ) → n < u.count → IsPlace u from → is_idle (next_at u n) ≡ false →
    ((k : ℕ) → k < u.count → (k ≡ n → ⊥) → is_idle (next_at u k) ≡ true) → IsNextBusy u from n
alone-next u from n l place busy idle = go (nat_lt n from) refl
  where
    go : (c : Bool) → nat_lt n from ≡ c → IsNextBusy u from n
    go false e = inl (record {
      after = grind (arith, e, nat_tests);
      within = l;
      acts = busy;
      before = λ k low high. idle k (omega (arith, high, l)) (λ same. omega (arith, same, high));
    })
    go true e = inr (
      λ k low high. idle k high (λ same. grind (arith, same, low, e, nat_tests)),
      record {
        after = omega arith;
        within = grind (arith, e, nat_tests);
        acts = busy;
        before = λ k low high. idle k (omega (arith, high, l)) (λ same. omega (arith, same, high));
      },
    )

-- the router that rests next, and the node after that
rests-there : (x : Node) (serial : ℕ) → RestsNext x serial → (r : Router) × (get x.routers serial ≡ Some r)
unfolding close_turn router_turn
rests-there x serial rests = go x.pending (flagged_router x) refl rests.first
  where
    go : (es : List End) (o : Option Found) → flagged_router x ≡ o →
        close_turn es (router_turn o) ≡ acts.Router serial router_acts.Rest → (r : Router) × (get x.routers serial ≡ Some r)
    go [] None e h = absurd cc
    go [] (Some f) e h = let same : f.serial ≡ serial = cc in (f.router, ap (get x.routers) (sym same) ∙ (found_tells x (λ r. r.flagged) f e).0)
    go (one ∷ es) o e h = absurd cc

pub rests-some : (x : Node) (serial : ℕ) → RestsNext x serial → is_some (router_in x serial) ≡ true
rests-some x serial rests = ap is_some (rests-there x serial rests).1

rested-is : (x : Node) (serial : ℕ) (r : Router) → get x.routers serial ≡ Some r →
    commit x (acts.Router serial router_acts.Rest) Plain ≡ with_router x serial (rest r)
unfolding commit commit_router keep_or_drop leaves_by on_router send output_of apply
rested-is x serial r here = ap (λ o. on_router x o (commit_router x serial router_acts.Rest Plain)) here

-- so many acts of a node lead on from one world to another, and the node behind it is visited next
pub record LeadsOn (w u : World) (n acts : ℕ) : Type 0 where
  pub count : u.count ≡ w.count
  pub walk : (w0 : World) (done from : ℕ) → Walk w0 w done from → IsPlace w from → Walk w0 u (done + acts) (next_node u n)

-- a router of a node rests, and code has the world in another form
module _ {v w : World} (view : v ≡ w) {n serial : ℕ} (is : IsPassing w n n) (rests : RestsNext (node_at w n) serial) {x : Node}
    (behind : x ≡ commit (node_at w n) (acts.Router serial router_acts.Rest) Plain) where
  abbrev rester : (r : Router) × (get (node_at w n).routers serial ≡ Some r)
  rester = rests-there (node_at w n) serial rests

  after : x ≡ with_router (node_at w n) serial (rest rester.0)
  after = behind ∙ rested-is (node_at w n) serial rester.0 rester.1

  -- items may pass then as before
  pub rest-passing : IsPassing (set_node v n x) n n
  rest-passing =
      let counted = ap (λ (k : Node). k.count) after ∙ is.counts n is.here in
      subst (λ u. IsPassing (set_node u n x) n n) (sym view) (passing-taker w n n x is counted (ap (λ (k : Node). k.hand) after ∙ is.hand))

  -- and the rest is one act
  pub rest-leads : act_lacks_serials (node_at w n) (acts.Router serial router_acts.Rest) ≡ false → LeadsOn w (set_node v n x) n 1
  unfolding set_node turn_lacks_serials is_idle
  rest-leads allowed =
      let few : w.count ≤ node_limit = is.lengths.few in
      let first : next_at w n ≡ acts.Router serial router_acts.Rest =
      own_act w n few (is.counts n is.here) (λ i li. is.mail (way w i n)) rests.hand rests.outboxes ∙ rests.first in
      let idle : (k : ℕ) → k < w.count → (k ≡ n → ⊥) → is_idle (next_at w k) ≡ true =
      λ k l ne. quiet_idle w k few (is.counts k l) (λ i li. is.mail (way w i k)) (quiet_is (node_at w k) (is.others k l ne ne)) in
      subst (λ u. LeadsOn w (set_node u n x) n 1) (sym view) (record {
        count = refl;
        walk = λ w0 done from walk place. walked w0 (set_node w n x) (done + 1) (next_node w n)
            (go-on w0 w (set_node w n x) done from n (acts.Router serial router_acts.Rest) (on_way-walked w0 w done from walk place)
            (alone-next w from n is.here place (ap is_idle first) idle) is.here first allowed
            (router-acts w n serial rester.0 router_acts.Rest rester.1 refl ∙ ap (set_node w n) (sym behind)));
      })

module _ (w : World) (n : ℕ) (is : IsPassing w n n) where
  abbrev at : Node → Mail → World
  at x b = single w n x b

  few : w.count ≤ node_limit
  few = is.lengths.few

  module _ (x : Node) (b : Mail) where
    pub node-is : node_at (at x b) n ≡ x
    node-is =
        let itself : nat_eq n n ≡ true = grind (arith, nat_tests) in
        node-set_mail (set_node w n x) (way w n n) b n ∙ node-set_node w n x n ∙ ap (λ c. cond c x (node_at w n)) itself

    node-other : (k : ℕ) → (k ≡ n → ⊥) → node_at (at x b) k ≡ node_at w k
    node-other k ne =
        let other : nat_eq k n ≡ false = grind (arith, ne, nat_tests) in
        node-set_mail (set_node w n x) (way w n n) b k ∙ node-set_node w n x k ∙ ap (λ c. cond c x (node_at w k)) other

    box-is : mail_at (at x b) (way (at x b) n n) ≡ b
    unfolding set_node set_mail mail_at
    box-is =
        let itself : nat_eq (way w n n) (way w n n) ≡ true = grind (arith, nat_tests) in
        mail-set_mail (set_node w n x) (way w n n) b (way w n n) ∙ ap (λ c. cond c b (mail_at w (way w n n))) itself

    box-other : (k : ℕ) → nat_eq k (way w n n) ≡ false → mail_at (at x b) k ≡ mail_at w k
    unfolding set_node mail_at
    box-other k ne = mail-set_mail (set_node w n x) (way w n n) b k ∙ ap (λ c. cond c b (mail_at w k)) ne

    none-elsewhere : (k i : ℕ) → k < w.count → (k ≡ n → ⊥) → is_full (mail_at (at x b) (way (at x b) i k)) ≡ false
    unfolding set_node set_mail
    none-elsewhere k i l ne = ap is_full (box-other (way w i k) (way-apart w.count i k n n l is.here ne)) ∙ is.mail (way w i k)

    none-from : (i : ℕ) → (i ≡ n → ⊥) → is_full (mail_at (at x b) (way (at x b) i n)) ≡ false
    unfolding set_node set_mail
    none-from i ne = ap is_full (box-other (way w i n) (way-from w.count i n n is.here ne)) ∙ is.mail (way w i n)

    pub none-to : is_full b ≡ false → (i : ℕ) → is_full (mail_at (at x b) (way (at x b) i n)) ≡ false
    none-to clear i = go (nat_eq i n) refl
      where
        go : (c : Bool) → nat_eq i n ≡ c → is_full (mail_at (at x b) (way (at x b) i n)) ≡ false
        go true e = let it : i ≡ n = grind (arith, e, nat_tests) in
            ap (λ k. is_full (mail_at (at x b) (way (at x b) k n))) it ∙ ap is_full box-is ∙ clear
        go false e = none-from i (λ it. grind (arith, e, it, nat_tests))

    -- each other node is idle
    pub idle-others : (k : ℕ) → k < w.count → (k ≡ n → ⊥) → is_idle (next_at (at x b) k) ≡ true
    unfolding set_node set_mail
    idle-others k l ne =
        let there = node-other k ne in
        quiet_idle (at x b) k few (ap (λ (z : Node). z.count) there ∙ is.counts k l) (λ i li. none-elsewhere k i l ne)
        (subst Quiet (sym there) (quiet_is (node_at w k) (is.others k l ne ne)))

    next : (from : ℕ) → IsPlace (at x b) from → is_idle (next_at (at x b) n) ≡ false → IsNextBusy (at x b) from n
    unfolding set_node set_mail
    next from place busy = alone-next (at x b) from n is.here place busy idle-others

  pub write-node : (x z : Node) (b : Mail) → set_node (at x b) n z ≡ at z b
  unfolding set_node set_mail
  write-node x z b = λ j. record (at z b) { nodes = put-twice (bare_node 0 0) w.nodes n x z j }

  write-box : (x : Node) (b c : Mail) → set_mail (at x b) (way (at x b) n n) c ≡ at x c
  unfolding set_node set_mail
  write-box x b c = λ j. record (at x c) { mail = put-twice Empty w.mail (way w n n) b c j }

  pub single-box : (x : Node) → at x Empty ≡ set_node w n x
  unfolding set_node set_mail mail_at
  single-box x = λ j. record (set_node w n x) {
    mail = (ap (put_place Empty w.mail (way w n n)) (sym is.box)
        ∙ put-same Empty w.mail (way w n n) (way-within w n n is.here is.here is.lengths)) j;
  }

  single-start : at (node_at w n) Empty ≡ w
  unfolding set_node node_at
  single-start = single-box (node_at w n) ∙ (λ j. record w {
    nodes = put-same (bare_node 0 0) w.nodes n (omega (arith, is.here, is.lengths.nodes)) j;
  })

  module _ (w0 : World) (serial : ℕ) (link : LinkEnd) (sends : SendsNext (node_at w n) serial link) (to : link.other ≡ n)
      (low : (node_at w n).next_peripheral ≤ no_number) where
    abbrev x0 : Node
    x0 = node_at w n

    abbrev x1 : Node
    x1 = waiting_node x0 serial link sends

    abbrev x2 : Node
    x2 = sent_node x0 serial link sends

    abbrev xh : Node
    xh = record x2 { hand = Some n }

    abbrev msg : Message
    msg = sent_message x0 serial link sends

    counted : x0.count ≡ w.count
    counted = is.counts n is.here

    -- the router sends its item out
    on-1 : (done from : ℕ) → OnWay w0 done w from → OnWay w0 (done + 1) (at x1 Empty) (next_node w n)
    unfolding set_node set_mail turn_lacks_serials is_idle is_full
    on-1 done from on =
        let u = at x0 Empty in
        let here = node-is x0 Empty in
        let start = subst (λ v. OnWay w0 done v from) (sym single-start) on in
        let first : next_at u n ≡ acts.Router serial router_acts.SendOut =
        own_act u n few (ap (λ (z : Node). z.count) here ∙ counted) (λ i li. none-to x0 Empty refl i)
        (ap (λ (z : Node). z.hand) here ∙ sends.hand) (ap (λ (z : Node). are_empty z.outboxes) here ∙ sends.outboxes)
        ∙ ap (λ (z : Node). close_turn z.pending (router_turn (flagged_router z))) here ∙ own_send x0 serial link sends in
        go-on w0 u (at x1 Empty) done from n (acts.Router serial router_acts.SendOut) start (next x0 Empty from start.place (ap is_idle first))
        is.here first
        (ap (λ z. act_lacks_serials z (acts.Router serial router_acts.SendOut)) here
        ∙ first_freely x0 serial link (sender x0 serial link sends) sends.sender.here (sent_first x0 serial link sends) low)
        (router-acts u n serial (sender x0 serial link sends) router_acts.SendOut
        (ap (λ (z : Node). get z.routers serial) here ∙ sends.sender.here) refl
        ∙ ap (λ z. set_node u n (commit z (acts.Router serial router_acts.SendOut) Plain)) here
        ∙ ap (set_node u n) (sym (first_sent x0 serial link (sender x0 serial link sends) sends.sender.here (sent_first x0 serial link sends)))
        ∙ write-node x0 x1 Empty)

    -- the message is posted
    on-2 : (done from : ℕ) → OnWay w0 done (at x1 Empty) from → OnWay w0 (done + 1) (at x2 (Full msg)) (next_node w n)
    unfolding set_node set_mail turn_lacks_serials act_lacks_serials is_idle is_full is_clear after_act after_post post_of first_of
    on-2 done from on =
        let u = at x1 Empty in
        let here = node-is x1 Empty in
        let first : next_at u n ≡ acts.Post n =
        post_act u n n few (ap (λ (z : Node). z.count) here ∙ counted) is.here (λ i li. none-to x1 Empty refl i)
        (ap (λ (z : Node). z.hand) here ∙ sends.hand)
        (ap (λ z. has_mail_for z n) here ∙ ap (has_mail_for x1) (sym to) ∙ mail-there x0 serial link sends)
        (ap is_clear (box-is x1 Empty))
        (λ i ne. ap (λ z. has_mail_for z i) here ∙ box-others x0 serial link sends i (λ e. ne (e ∙ to))) in
        go-on w0 u (at x2 (Full msg)) done from n (acts.Post n) on (next x1 Empty from on.place (ap is_idle first)) is.here first refl
        (ap (λ z. after_post u n n (post_of z (acts.Post n))) here
        ∙ ap (λ ms. after_post u n n (first_of ms)) (ap (outbox x1) (sym to) ∙ box-there x0 serial link sends)
        ∙ ap (λ z. set_mail (set_node u n (commit z (acts.Post n) Plain)) (way u n n) (Full msg)) here
        ∙ ap (λ k. set_mail (set_node u n (commit x1 (acts.Post k) Plain)) (way u n n) (Full msg)) (sym to)
        ∙ ap (λ z. set_mail (set_node u n z) (way u n n) (Full msg)) (posted x0 serial link sends (omega (arith, to, is.here, few)))
        ∙ ap (λ v. set_mail v (way u n n) (Full msg)) (write-node x1 x2 Empty)
        ∙ write-box x2 Empty (Full msg))

    -- the node looks
    on-3 : (done from : ℕ) → OnWay w0 done (at x2 (Full msg)) from → OnWay w0 (done + 1) (at xh (Hand msg)) (next_node w n)
    unfolding set_node set_mail turn_lacks_serials act_lacks_serials is_idle is_full after_act after_look full_message commit
    on-3 done from on =
        let u = at x2 (Full msg) in
        let here = node-is x2 (Full msg) in
        let box = box-is x2 (Full msg) in
        let first : next_at u n ≡ acts.Look n =
        look_act u n n few (ap (λ (z : Node). z.count) here ∙ counted) is.here (ap is_full box)
        (λ i li ne. none-from x2 (Full msg) i ne) (ap (λ (z : Node). z.hand) here ∙ sends.hand) in
        go-on w0 u (at xh (Hand msg)) done from n (acts.Look n) on (next x2 (Full msg) from on.place (ap is_idle first)) is.here first refl
        (ap (λ b. after_look u n n (full_message b)) box
        ∙ ap (λ z. set_mail (set_node u n (commit z (acts.Look n) Plain)) (way u n n) (Hand msg)) here
        ∙ ap (λ v. set_mail v (way u n n) (Hand msg)) (write-node x2 xh (Full msg))
        ∙ write-box xh (Full msg) (Hand msg))

    -- so far, whatever becomes of the item
    pub so-far : (done from : ℕ) → OnWay w0 done w from → OnWay w0 (done + 3) (at xh (Hand msg)) (next_node w n)
    so-far done from on =
        subst (λ k. OnWay w0 k (at xh (Hand msg)) (next_node w n)) (omega arith)
        (on-3 (done + 1 + 1) (next_node w n) (on-2 (done + 1) (next_node w n) (on-1 done from on)))

    -- and the message is handed
    pub handed-on : (z : Node) → ((source : Option ℕ) → z ≡ deliver xh n msg source) → ((source : Option ℕ) → message_lacks_serials xh n msg source ≡ false) →
        (done from : ℕ) → OnWay w0 done (at xh (Hand msg)) from → OnWay w0 (done + 1) (at z Empty) (next_node w n)
    unfolding set_node set_mail turn_lacks_serials hand_lacks_serials is_idle after_act after_hand hand_message
    handed-on z taken allowed done from on =
        let u = at xh (Hand msg) in
        let here = node-is xh (Hand msg) in
        let box = box-is xh (Hand msg) in
        let first : next_at u n ≡ acts.Hand n = hand_act u n n (ap (λ (z : Node). z.hand) here) in
        go-on w0 u (at z Empty) done from n (acts.Hand n) on (next xh (Hand msg) from on.place (ap is_idle first)) is.here first
        (ap (λ b. hand_lacks_serials u n n (hand_message b)) box
        ∙ ap (λ z. message_lacks_serials z n msg (source_for u msg)) here ∙ allowed (source_for u msg))
        (ap (λ b. after_hand u n n (hand_message b)) box
        ∙ ap (λ z. set_mail (set_node u n (deliver z n msg (source_for u msg))) (way u n n) Empty) here
        ∙ ap (λ z. set_mail (set_node u n z) (way u n n) Empty) (sym (taken (source_for u msg)))
        ∙ ap (λ v. set_mail v (way u n n) Empty) (write-node xh z (Hand msg))
        ∙ write-box z (Hand msg) Empty)

    -- code leaves the message in hand
    pub left-walk : (done from : ℕ) → IsPlace w from → Walk w0 w done from →
        Walk w0 (with_hand (set_node w n x2) n n msg) (done + 3) (next_node w n)
    unfolding set_node set_mail
    left-walk done from place walk =
        let held : with_hand (set_node w n x2) n n msg ≡ at xh (Hand msg) =
        ap (λ (z : Node). set_mail (set_node (set_node w n x2) n (record z { hand = Some n })) (way w n n) (Hand msg)) (node-here w n x2)
        ∙ ap (λ v. set_mail v (way w n n) (Hand msg)) (set-twice w n x2 xh) in
        subst (λ v. Walk w0 v (done + 3) (next_node w n)) (sym held)
        (walked w0 _ (done + 3) (next_node w n) (so-far done from (on_way-walked w0 w done from walk place)))

    -- or hands the item on
    pub here-walk : (u : World) → ((source : Option ℕ) → u ≡ set_node (set_node w n x2) n (deliver (node_at (set_node w n x2) n) n msg source)) →
        ((source : Option ℕ) → message_lacks_serials (node_at (set_node w n x2) n) n msg source ≡ false) → (done from : ℕ) → IsPlace w from →
        Walk w0 w done from → Walk w0 u (done + 4) (next_node w n)
    unfolding fits fits_item
    here-walk u handed allowed done from place walk =
        let there = node-here w n x2 in
        let item = (sent_first x0 serial link sends).item in
        let number = (sender x0 serial link sends).out_queue.current in
        let z = deliver x2 n msg None in
        let unheld : (source : Option ℕ) → deliver xh n msg source ≡ deliver x2 n msg source =
        λ source. (item_unheld x2 n link.link (opposite link.side) number item source sends.hand).0 in
        let same : (source : Option ℕ) → u ≡ set_node w n (deliver x2 n msg source) =
        λ source. handed source ∙ ap (λ k. set_node (set_node w n x2) n (deliver k n msg source)) there
        ∙ set-twice w n x2 (deliver x2 n msg source) in
        let node : (source : Option ℕ) → z ≡ deliver xh n msg source =
        λ source. sym (node-here w n z) ∙ ap (λ v. node_at v n) (sym (same None) ∙ same source) ∙ node-here w n (deliver x2 n msg source)
        ∙ sym (unheld source) in
        let lacks : (source : Option ℕ) → message_lacks_serials xh n msg source ≡ false =
        λ source. ap (λ k. message_lacks_serials k n msg source) (sym there) ∙ allowed source in
        let on = handed-on z node lacks (done + 3) (next_node w n) (so-far done from (on_way-walked w0 w done from walk place)) in
        subst (λ k. Walk w0 u k (next_node w n)) (omega arith)
        (subst (λ v. Walk w0 v (done + 3 + 1) (next_node w n)) (single-box z ∙ sym (same None))
        (walked w0 _ (done + 3 + 1) (next_node w n) on))

-- a node that hands an item to itself, as code has it
abbrev pub IsHandedHere : World → ℕ → World → Node → ℕ → Message → Type 0
IsHandedHere w n u x m msg = (source : Option ℕ) → u ≡ set_node (set_node w n x) m (deliver (node_at (set_node w n x) m) n msg source)

abbrev pub IsAllowedHere : World → ℕ → Node → ℕ → Message → Type 0
IsAllowedHere w n x m msg = (source : Option ℕ) → message_lacks_serials (node_at (set_node w n x) m) n msg source ≡ false

-- code has sent an item within a node, and has the world in another form
module _ {v w : World} (view : v ≡ w) {n serial : ℕ} {link : LinkEnd} (is : IsPassing w n n) {sends : SendsNext (node_at w n) serial link}
    (to : link.other ≡ n) {x : Node} {number : ℕ} {item : Item} (sent : HasSent pop_out sends x number item) where
  pub sent-passing : IsPassing (set_node v n x) n link.other
  sent-passing =
      let counted = ap (λ (k : Node). k.count) sent.behind ∙ is.counts n is.here in
      let free = ap (λ (k : Node). k.hand) sent.behind ∙ sends.hand in
      subst₂ (λ u m. IsPassing (set_node u n x) n m) (sym view) (sym to) (passing-taker w n n x is counted free)

  -- then it hands the item
  pub handed-leads : (u : World) → IsHandedHere v n u x link.other (lone_message link number item) →
      IsAllowedHere v n x link.other (lone_message link number item) → LeadsOn w u n 4
  unfolding set_node
  handed-leads u handed allowed =
      let x2 = sent_node (node_at w n) serial link sends in
      let msg = sent_message (node_at w n) serial link sends in
      let same : IsHandedHere w n u x2 n msg = λ source. handed source ∙ (λ j. set_node (set_node (view j) n (sent.behind j)) (to j)
      (deliver (node_at (set_node (view j) n (sent.behind j)) (to j)) n (told sent j) source)) in
      let lacks : IsAllowedHere w n x2 n msg = λ source.
      sym (λ j. message_lacks_serials (node_at (set_node (view j) n (sent.behind j)) (to j)) n (told sent j) source) ∙ allowed source in
      record {
        count = ap (λ (z : World). z.count) (same None);
        walk = λ w0 done from walk place. subst (Walk w0 u (done + 4)) (ap (λ z. next_node z n) (sym (same None)))
            (here-walk w n is w0 serial link sends to sent.low u same lacks done from place walk);
      }

  -- or leaves its message in hand
  pub left-leads : (u : World) → u ≡ with_hand (set_node v n x) n link.other (lone_message link number item) → LeadsOn w u n 3
  unfolding set_node set_mail
  left-leads u left =
      let same : u ≡ with_hand (set_node w n (sent_node (node_at w n) serial link sends)) n n (sent_message (node_at w n) serial link sends) =
      left ∙ (λ j. with_hand (set_node (view j) n (sent.behind j)) n (to j) (told sent j)) in
      record {
        count = ap (λ (z : World). z.count) same;
        walk = λ w0 done from walk place. subst (λ z. Walk w0 z (done + 3) (next_node z n)) (sym same)
            (left-walk w n is w0 serial link sends to sent.low done from place walk);
      }
