-- What each act of a node leaves of what stays with its terminals, and of its pending closes.
use Rattle.std.specs.Prelude.{◌≡◌, ◌≤◌, ℕ, ◌+◌, ◌*◌, Bool, true, false, cond, ◌&&◌, ◌||◌, ◌++◌, if◌then◌else◌, nat_eq, Option, Some, None, is_some}
use Rattle.std.specs.Prelude.{List, [], ◌∷◌, length, refl}
use Rattle.std.proofs.Common.{arith, ap, subst, sym, ◌∙◌}
use Rattle.std.specs.Ordering.{nat_cmp}
use Rattle.std.specs.Cmp.{nat_cmp_total}
use Rattle.std.specs.FinMap.{nat_cmp-IsAntisymmetric, get}
use Rattle.std.proofs.lemmas.List.{length-append}
use Rattle.ipcz_base.proofs.Totals.{total-insert, total-remove}
use Rattle.ipcz_base.specs.declared.message.Message.TheVariants as messages
use Rattle.ipcz_world.proofs.Vocabulary.{End, Item, Message, LinkEnd, ends_in, Router, Node, Found, with_router, terminal_of, has_link, current_item}
use Rattle.ipcz_world.proofs.Vocabulary.{item_at, is_terminal, inward_edge, output_of, is_possible, RouterAct, commit, Close, moves_of, Mark, Gone}
use Rattle.ipcz_world.proofs.Vocabulary.{is_proxy, outward_has, way_out, way_in, pop_out, send_on, drop_item, has_gone_next, may_take, is_rest}
use Rattle.ipcz_world.proofs.Vocabulary.{accept, next_number, accept_message, accept_bypass, stop_message, stop_proxying, will_stop_message}
use Rattle.ipcz_world.proofs.Vocabulary.{proxy_will_stop, leaves_by, apply, item_output, message_output, discard_output, Answer, link_router}
use Rattle.ipcz_world.proofs.Vocabulary.{on_found, push_out, without_router, is_terminal_of, send, send_item, close_at_router, commit_router}
use Rattle.ipcz_world.proofs.Vocabulary.{keep_or_drop, rest_of, fits, handle, tell, take_in, deliver, Rates}
use Rattle.ipcz_base.specs.declared.side.Side.{Side}
use Rattle.ipcz_base.specs.declared.link_id.LinkId.{LinkId}
use Rattle.ipcz_base.specs.declared.link_id.LinkId.TheVariants.{Central}
use Rattle.ipcz_edge.specs.Edge.{Edge}
use Rattle.ipcz_router.specs.declared.sending.Sending.{Sending}
use Rattle.ipcz_router.specs.Router.{router_has, rouse}
use Rattle.ipcz_router.specs.Closing.{close_router}
use Rattle.ipcz_router.specs.Bypass.{bypass_peer}
use Rattle.ipcz_router.specs.ActEffects.{retire_output}
use Rattle.ipcz_router.specs.ActEffects.{IsAnswerOf, flush_message, begin_message}
use Rattle.ipcz_router.specs.declared.act.RouterAct.TheVariants as acts
use Rattle.ipcz_router.specs.declared.act.Answer.TheVariants as answers
use Rattle.ipcz_node.specs.Node.{add_stray}
use Rattle.ipcz_node.specs.Sends.{item_message}
use Rattle.ipcz_node.specs.Hands.{free_hand}
use Rattle.ipcz_world.proofs.facts.Finding.{found_tells}
use Rattle.ipcz_world.proofs.facts.Tests.{and_first, and_second}
use Rattle.ipcz_world.specs.PutBounds.{router_stays, node_stays}
use Rattle.ipcz_world.proofs.lawful.RouterStays as routers

-- what stays in a node isn't less in another but for so much and for six for each close that is done
abbrev pub KeepsBut : Rates → Node → Node → ℕ → Type 0
KeepsBut c n x k = node_stays c n + 6 * length x.pending ≤ node_stays c x + 6 * length n.pending + k

-- a router is another
pub stays-with : (c : Rates) (n : Node) (s : ℕ) (y r : Router) → get n.routers s ≡ Some r →
    node_stays c (with_router n s y) + router_stays c r ≡ node_stays c n + router_stays c y
stays-with c n s y r e = total-insert nat_cmp nat_cmp_total nat_cmp-IsAntisymmetric (λ k x. router_stays c x) n.routers s y r e

stays-without : (c : Rates) (n : Node) (s : ℕ) (r : Router) → get n.routers s ≡ Some r →
    node_stays c (without_router n s) + router_stays c r ≡ node_stays c n
stays-without c n s r e = total-remove nat_cmp nat_cmp_total nat_cmp-IsAntisymmetric (λ k x. router_stays c x) n.routers s r e

-- a router changes, and what stays with it falls by so much at most
keeps-with : (c : Rates) (n : Node) (s : ℕ) (y r : Router) (k : ℕ) → get n.routers s ≡ Some r → router_stays c r ≤ router_stays c y + k →
    KeepsBut c n (with_router n s y) k
keeps-with c n s y r k e h = omega (arith, stays-with c n s y r e, h)

keeps-same : (c : Rates) (n : Node) (s : ℕ) (y r : Router) → get n.routers s ≡ Some r → router_stays c y ≡ router_stays c r →
    KeepsBut c n (with_router n s y) 0
keeps-same c n s y r e h = omega (arith, stays-with c n s y r e, h)

-- an item without ends is sent
pub sent-bare : (n : Node) (link : LinkEnd) (i : ℕ) (item : Item) → ends_in item ≡ [] →
    send_item n link i item ≡ push_out n link.other (item_message link i item [])
unfolding send_item
sent-bare n link i item bare = go (nat_eq link.other n.number) refl
  where
    go : (b : Bool) → nat_eq link.other n.number ≡ b → send_item n link i item ≡ push_out n link.other (item_message link i item [])
    go true e = rw e refl
    go false e = rw (e, bare) refl

-- the found router has the link outward, if it is a terminal
terminal-outward : (r : Router) (link : LinkId) (side : Side) → router_has r link side ≡ true → is_terminal r ≡ true →
    outward_has r link side ≡ true
unfolding has_link
terminal-outward r link side h t = go r.inward refl
  where
    go : (o : Option Edge) → r.inward ≡ o → outward_has r link side ≡ true
    go None e = grind (arith, e, h)
    go (Some x) e = absurd (grind (arith, e, t))

-- the hand of a message that moves no end
module _ (c : Rates) (n : Node) (sender : ℕ) where
  found-same : (link : LinkId) (side : Side) (f : Found) (y : Router) → link_router n link side ≡ Some f →
      router_stays c y ≡ router_stays c f.router → KeepsBut c n (with_router n f.serial y) 0
  found-same link side f y e h = keeps-same c n f.serial y f.router (found_tells n (λ r. router_has r link side) f e).0 h

  told : (x : Node) (o : Option Sending) → KeepsBut c n x 0 → KeepsBut c n (tell x o) 0
  unfolding tell
  told x None h = h
  told x (Some s) h = h

  handled : (m : Message) → moves_of m ≡ [] → KeepsBut c n (handle n sender m) 0
  unfolding handle on_found moves_of router_stays
  handled (messages.Item link side number item moves) bare = go (link_router n link side) refl
    where
      go : (o : Option Found) → link_router n link side ≡ o → KeepsBut c n (on_found n o (take_in n sender link side number item moves)) 0
      go None e = omega arith
      go (Some f) e =
          let has = (found_tells n (λ r. router_has r link side) f e).1 in
          let y : Router = accept f.router (outward_has f.router link side) number item in
          rw bare (found-same link side f y e
          (routers.same-accept c f.router (outward_has f.router link side) number item (terminal-outward f.router link side has)))
  handled (messages.BypassPeer link side old target fresh) bare = go (link_router n link side) refl
    where
      go : (o : Option Found) → link_router n link side ≡ o →
          KeepsBut c n (on_found n o (λ s r. tell (with_router n s (bypass_peer r target fresh)) (Some (accept_message r old target fresh)))) 0
      go None e = omega arith
      go (Some f) e = told (with_router n f.serial (bypass_peer f.router target fresh)) (Some (accept_message f.router old target fresh))
          (found-same link side f (bypass_peer f.router target fresh) e refl)
  handled (messages.AcceptBypass old side fresh length) bare = go (link_router n (Central old) side) refl
    where
      go : (o : Option Found) → link_router n (Central old) side ≡ o →
          KeepsBut c n (on_found n o (λ s r. tell (with_router n s (accept_bypass r sender side fresh length))
          (stop_message r r.outward.primary old side length))) 0
      go None e = omega arith
      go (Some f) e = told (with_router n f.serial (accept_bypass f.router sender side fresh length))
          (stop_message f.router f.router.outward.primary old side length)
          (found-same (Central old) side f (accept_bypass f.router sender side fresh length) e refl)
  handled (messages.StopProxying side old in_length out_length) bare = go (link_router n (Central old) side) refl
    where
      go : (o : Option Found) → link_router n (Central old) side ≡ o →
          KeepsBut c n (on_found n o (λ s r. tell (with_router n s (stop_proxying r in_length out_length))
          (will_stop_message (inward_edge r).decaying in_length))) 0
      go None e = omega arith
      go (Some f) e = told (with_router n f.serial (stop_proxying f.router in_length out_length))
          (will_stop_message (inward_edge f.router).decaying in_length)
          (found-same (Central old) side f (stop_proxying f.router in_length out_length) e
          (routers.same-stop_proxying c f.router in_length out_length))
  handled (messages.ProxyWillStop link side in_length) bare = go (link_router n link side) refl
    where
      go : (o : Option Found) → link_router n link side ≡ o → KeepsBut c n (on_found n o (λ s r. with_router n s (proxy_will_stop r in_length))) 0
      go None e = omega arith
      go (Some f) e = found-same link side f (proxy_will_stop f.router in_length) e refl
  handled (messages.Flush link side) bare = go (link_router n link side) refl
    where
      go : (o : Option Found) → link_router n link side ≡ o → KeepsBut c n (on_found n o (λ s r. with_router n s (rouse r))) 0
      go None e = omega arith
      go (Some f) e = found-same link side f (rouse f.router) e refl

  pub keeps-delivered : (m : Message) (source : Option ℕ) → moves_of m ≡ [] → KeepsBut c n (deliver n sender m source) 0
  unfolding deliver
  keeps-delivered m source bare = go (fits n sender m source)
    where
      go : (b : Bool) → KeepsBut c n (free_hand (if b then handle n sender m else add_stray n m) sender) 0
      go true = handled m bare
      go false = omega arith

-- what leaves a router's queues carries no end, and its pair's numbers are worth six
pub record IsBare (c : Rates) (r : Router) : Type 0 where
  pub out : (item : Item) → current_item r.out_queue ≡ Some item → ends_in item ≡ []
  pub inner : (item : Item) → current_item r.in_queue ≡ Some item → ends_in item ≡ []
  pub price : c.price r.end.pair ≡ 6

pub or-none : (b : Bool) → (b || false) ≡ true → b ≡ true
or-none true h = refl
or-none false h = cc

-- what of what stays an act of a router takes: the number of an item that a sink drops, and all that a sink has which leaves
unfoldable pub lost_by : Rates → Router → RouterAct → ℕ
lost_by c r acts.Discard = cond (has_gone_next r) (router_stays c r) 6
lost_by c r acts.Retire = router_stays c r
lost_by c r other = 0

module _ (c : Rates) (n : Node) (s : ℕ) (r : Router) (here : get n.routers s ≡ Some r) where
  -- the act keeps what stays
  abbrev Keeps : RouterAct → Answer → Type 0
  Keeps act a = KeepsBut c n (commit_router n s act a r) (lost_by c r act)

  changed : (y : Router) → router_stays c y ≡ router_stays c r → KeepsBut c n (with_router n s y) 0
  changed y h = keeps-same c n s y r here h

  sent : (y : Router) (link : LinkEnd) (i : ℕ) (item : Item) → ends_in item ≡ [] → router_stays c y ≡ router_stays c r →
      KeepsBut c n (send_item (with_router n s y) link i item) 0
  sent y link i item bare h = subst (λ x. KeepsBut c n x 0) (sym (sent-bare (with_router n s y) link i item bare)) (changed y h)

  keeps-send_out : IsBare c r → is_possible r acts.SendOut ≡ true → (a : Answer) → Keeps acts.SendOut a
  unfolding is_possible commit_router keep_or_drop leaves_by apply output_of item_output send lost_by
  keeps-send_out bare can a = go (current_item r.out_queue) refl (way_out r) can
    where
      go : (o : Option Item) → current_item r.out_queue ≡ o → (l : Option LinkEnd) → (is_some o && is_some l) ≡ true →
          KeepsBut c n (send (with_router n s (pop_out r)) (item_output l r.out_queue.current o)) 0
      go None e l h = cc
      go (Some item) e None h = cc
      go (Some item) e (Some l) h = sent (pop_out r) l r.out_queue.current item (bare.out item e) (routers.same-pop_out c r item e)

  keeps-send_in : IsBare c r → is_possible r acts.SendIn ≡ true → (a : Answer) → Keeps acts.SendIn a
  unfolding is_possible commit_router keep_or_drop leaves_by apply output_of item_output send lost_by
  keeps-send_in bare can a =
      let proxy : is_proxy r ≡ true = routers.sender-proxy r (and_second (is_some (current_item r.in_queue)) _ can) in
      go proxy (current_item r.in_queue) refl (way_in r) can
    where
      go : is_proxy r ≡ true → (o : Option Item) → current_item r.in_queue ≡ o → (l : Option LinkEnd) → (is_some o && is_some l) ≡ true →
          KeepsBut c n (send (with_router n s (send_on r)) (item_output l r.in_queue.current o)) 0
      go p None e l h = cc
      go p (Some item) e None h = cc
      go p (Some item) e (Some l) h = sent (send_on r) l r.in_queue.current item (bare.inner item e)
          (routers.proxy-stays c (send_on r) p ∙ sym (routers.proxy-stays c r p))

  -- a sink drops an item, and stays or leaves
  keeps-discard : IsBare c r → is_possible r acts.Discard ≡ true → (a : Answer) →
      KeepsBut c n (commit_router n s acts.Discard a r) (cond (has_gone_next r) (router_stays c r) 6)
  unfolding is_possible commit_router keep_or_drop leaves_by apply output_of discard_output send
  keeps-discard bare can a = go (current_item r.in_queue) refl (and_second _ _ can)
    where
      by : (t : Bool) (item : Item) → ends_in item ≡ [] →
          KeepsBut c n (record (keep_or_drop n s (drop_item r) t) { pending = (keep_or_drop n s (drop_item r) t).pending ++ ends_in item }) (cond t (router_stays c r) 6)
      by true item free = omega (arith, stays-without c n s r here, length-append n.pending (ends_in item), ap length free)
      by false item free = omega (
        arith,
        keeps-with c n s (drop_item r) r 6 here (routers.less-drop c r bare.price),
        length-append n.pending (ends_in item),
        ap length free,
      )

      go : (o : Option Item) → current_item r.in_queue ≡ o → is_some o ≡ true →
          KeepsBut c n (send (keep_or_drop n s (drop_item r) (has_gone_next r)) (discard_output r.in_queue.current o))
          (cond (has_gone_next r) (router_stays c r) 6)
      go None e h = cc
      go (Some item) e h = by (has_gone_next r) item (bare.inner item e)

  -- a sink retires
  keeps-retire : (a : Answer) → KeepsBut c n (commit_router n s acts.Retire a r) (router_stays c r)
  unfolding commit_router keep_or_drop leaves_by apply output_of retire_output send
  keeps-retire a = go r.outward.primary
    where
      go : (o : Option LinkEnd) → KeepsBut c n (send (without_router n s) (retire_output o (next_number r))) (router_stays c r)
      go None = omega (arith, stays-without c n s r here)
      go (Some e) = subst (λ x. KeepsBut c n x (router_stays c r)) (sym (sent-bare (without_router n s) e (next_number r) Gone refl))
          (omega (arith, stays-without c n s r here))

  messaged : (x : Node) (o : Option Sending) → KeepsBut c n x 0 → KeepsBut c n (send x (message_output o)) 0
  unfolding send message_output
  messaged x None h = h
  messaged x (Some m) h = h

  -- any act that may be taken
  pub router-keeps : IsBare c r → (act : RouterAct) (a : Answer) → may_take r act ≡ true → IsAnswerOf act a → Keeps act a
  unfolding is_rest is_possible commit_router keep_or_drop leaves_by apply output_of send router_stays lost_by
  router-keeps bare acts.SendOut a may is = keeps-send_out bare (or-none _ may) a
  router-keeps bare acts.SendIn a may is = keeps-send_in bare (or-none _ may) a
  router-keeps bare acts.Discard a may is = keeps-discard bare (or-none _ may) a
  router-keeps bare acts.Retire a may is = keeps-retire a
  router-keeps bare acts.FinishIn a may is = changed _ (routers.same-finish_in c r)
  router-keeps bare acts.Leave a may is =
      omega (arith, stays-without c n s r here, routers.proxy-stays c r (and_first _ _ (or-none _ may)))
  router-keeps bare acts.Mark (answers.Marked word was) may is = changed _ refl
  router-keeps bare acts.Mark other may is = absurd is
  router-keeps bare acts.Wake a may is = messaged _ (flush_message r.outward.primary) (changed _ refl)
  router-keeps bare acts.Claim (answers.Claimed i) may is = changed _ refl
  router-keeps bare acts.Claim answers.NoWord may is = changed _ refl
  router-keeps bare acts.Claim other may is = absurd is
  router-keeps bare acts.Lock (answers.Locked w) may is = changed _ refl
  router-keeps bare acts.Lock (answers.Waiting w) may is = changed _ refl
  router-keeps bare acts.Lock (answers.Refused w) may is = changed _ refl
  router-keeps bare acts.Lock other may is = absurd is
  router-keeps bare acts.Begin a may is =
      messaged _ (begin_message (inward_edge r).primary r.outward.primary r.spare) (changed _ (routers.same-begin c r))
  router-keeps bare other a may is = changed _ refl

-- a pending close: one end fewer is pending, and one number fewer is to come
pub keeps-closed : (c : Rates) (n : Node) (end : End) (a : Answer) → 1 ≤ length n.pending →
    ((s : ℕ) (r : Router) → get n.routers s ≡ Some r → is_terminal r ≡ true → (c.price r.end.pair ≡ 6) × (item_at r.out_queue (next_number r + 1) ≡ None)) →
    KeepsBut c n (commit n (Close end) a) 0
unfolding commit on_found rest_of
keeps-closed c n end a some fit = go (terminal_of x end) refl
  where
    x : Node
    x = record n { pending = rest_of n.pending }

    fewer : length (rest_of n.pending) + 1 ≤ length n.pending
    fewer = one n.pending some
      where
        one : (es : List End) → 1 ≤ length es → length (rest_of es) + 1 ≤ length es
        one [] h = absurd (omega (arith, h))
        one (e ∷ es) h = omega arith

    go : (o : Option Found) → terminal_of x end ≡ o → KeepsBut c n (on_found x o (close_at_router x)) 0
    go None e = omega (arith, fewer)
    go (Some f) e =
        let t = found_tells x (is_terminal_of end) f e in
        let is = fit f.serial f.router t.0 (and_first _ _ (and_first _ _ t.1)) in
        omega (
          arith,
          fewer,
          stays-with c n f.serial (close_router f.router) f.router t.0,
          routers.less-put c f.router (close_router f.router) Mark is.0 is.1 refl refl refl refl,
        )
