-- Each act of a node lowers what the node is worth, or makes a message of what it loses.
use Rattle.std.specs.Prelude.{◌≡◌, ◌≤◌, ◌<◌, ℕ, ◌+◌, Bool, true, false, not, ◌&&◌, ◌||◌, Option, Some, None}
use Rattle.std.specs.Prelude.{is_some, is_none, List, [], ◌∷◌, length, option_map, refl}
use Rattle.std.proofs.Common.{arith, inl, inr}
use Rattle.std.specs.FinMap.{get}
use Rattle.ipcz_base.specs.Links.{word_of}
use Rattle.ipcz_world.proofs.Vocabulary.{End, Item, LinkEnd, opposite, opposite_end, ends_in, inward_edge, Router, Node, Found, with_router}
use Rattle.ipcz_world.proofs.Vocabulary.{terminal_of, current_item, output_of, is_possible, RouterAct, commit, Close, is_proxy, is_sink}
use Rattle.ipcz_world.proofs.Vocabulary.{is_on_central, decays, way_out, way_in, pop_out, send_on, drop_item, has_gone_next, rest, next_number, Gone}
use Rattle.ipcz_world.proofs.Vocabulary.{without_router, may_take, is_rest, apply, item_output, message_output, discard_output, leaves_by, Answer}
use Rattle.ipcz_world.proofs.Vocabulary.{on_found, is_terminal_of, send, send_item, close_at_router, commit_router, keep_or_drop, rest_of, Rates}
use Rattle.ipcz_world.proofs.Vocabulary.{router_worth, node_worth}
use Rattle.ipcz_base.specs.declared.message.Message.TheVariants as messages
use Rattle.ipcz_edge.specs.Edge.{can_finish}
use Rattle.ipcz_router.specs.Router.{is_terminal}
use Rattle.ipcz_router.specs.ActEffects.{retire_output}
use Rattle.ipcz_world.proofs.lawful.Following.{IsAble, able-tells}
use Rattle.ipcz_router.specs.ActTable.{is_ready}
use Rattle.ipcz_router.specs.Closing.{close_router}
use Rattle.ipcz_router.specs.ActEffects.{IsAnswerOf, finish_out, finish_in, mark_side, wake_other, claim_word, run_dry, take_lock}
use Rattle.ipcz_router.specs.ActEffects.{fail_lock, begin_bypass, peer_message, begin_message, flush_message}
use Rattle.ipcz_router.specs.declared.act.RouterAct.TheVariants as acts
use Rattle.ipcz_router.specs.declared.act.Answer.TheVariants as answers
use Rattle.ipcz_world.proofs.facts.Finding.{found_tells}
use Rattle.ipcz_world.proofs.facts.Tests.{and_first, and_second}
use Rattle.ipcz_world.specs.Ranks.{message_worth, moving_worth, is_unbegun, spends}
use Rattle.ipcz_world.proofs.lawful.RouterWorths as routers
use Rattle.ipcz_world.proofs.lawful.NodeWorths.{node-with, node-without, node-push, node-pending, node-sent, closing-most}

not-true : (b : Bool) → not b ≡ true → b ≡ false
not-true true h = cc
not-true false h = refl

both : (a b : Bool) → a ≡ true → b ≡ true → (a && b) ≡ true
both true b h k = k
both false b h k = cc

none-is : (o : Option ℕ) → is_none o ≡ true → o ≡ None
none-is None h = refl
none-is (Some i) h = cc

or-none : (b : Bool) → (b || false) ≡ true → b ≡ true
or-none true h = refl
or-none false h = cc

-- the first of the ends to close is closed
fewer : (c : Rates) (n : Node) → 1 ≤ length n.pending → node_worth c (record n { pending = rest_of n.pending }) + 3 ≤ node_worth c n
unfolding node_worth rest_of
fewer c n some = go n.pending refl some
  where
    go : (es : List End) → n.pending ≡ es → 1 ≤ length es → node_worth c (record n { pending = rest_of n.pending }) + 3 ≤ node_worth c n
    go [] e h = absurd (omega (arith, h))
    go (x ∷ xs) e h = rw e (omega arith)

-- a pair's price pays for what leaves a router's queues, whose numbers are below the caps
pub record CanPay (c : Rates) (r : Router) : Type 0 where
  pub out : (item : Item) → current_item r.out_queue ≡ Some item →
      (r.out_queue.current < c.cap r.end) × (6 + moving_worth c (ends_in item) ≤ c.price r.end.pair)
  pub inner : (item : Item) → current_item r.in_queue ≡ Some item →
      (r.in_queue.current < c.cap (opposite_end r.end)) × (6 + moving_worth c (ends_in item) ≤ c.price r.end.pair)
  -- and there is room for the Gone of a sink that can retire
  pub gone : is_possible r acts.Retire ≡ true → (r.out_queue.current < c.cap r.end) × (6 ≤ c.price r.end.pair)

-- the act lowers the node's worth
abbrev pub Lowers : Rates → Node → ℕ → RouterAct → Answer → Router → Type 0
Lowers c n s act a r = node_worth c (commit_router n s act a r) + 1 ≤ node_worth c n

module _ (c : Rates) (n : Node) (s : ℕ) (r : Router) (here : get n.routers s ≡ Some r) where
  -- the router changes, and nothing is given to the node
  changed : (y : Router) (k : ℕ) → router_worth c y + k ≤ router_worth c r → node_worth c (with_router n s y) + k ≤ node_worth c n
  changed y k h = omega (arith, node-with c n s y r here, h)

  sent : (y : Router) (link : LinkEnd) (i : ℕ) (item : Item) → router_worth c y + (6 + moving_worth c (ends_in item)) ≤ router_worth c r →
      node_worth c (send_item (with_router n s y) link i item) + 1 ≤ node_worth c n
  sent y link i item h = omega (arith, node-sent c (with_router n s y) link i item, changed y (6 + moving_worth c (ends_in item)) h)

  lower-send_out : CanPay c r → is_possible r acts.SendOut ≡ true → (a : Answer) → Lowers c n s acts.SendOut a r
  unfolding is_possible commit_router keep_or_drop leaves_by apply output_of item_output send
  lower-send_out pay can a = go (current_item r.out_queue) refl (way_out r) can
    where
      go : (o : Option Item) → current_item r.out_queue ≡ o → (l : Option LinkEnd) → (is_some o && is_some l) ≡ true →
          node_worth c (send (with_router n s (pop_out r)) (item_output l r.out_queue.current o)) + 1 ≤ node_worth c n
      go None e l h = cc
      go (Some item) e None h = cc
      go (Some item) e (Some l) h = let p = pay.out item e in
          sent (pop_out r) l r.out_queue.current item (omega (arith, routers.lower-pop_out c r p.0, p.1))

  lower-send_in : CanPay c r → is_possible r acts.SendIn ≡ true → (a : Answer) → Lowers c n s acts.SendIn a r
  unfolding is_possible commit_router keep_or_drop leaves_by apply output_of item_output send
  lower-send_in pay can a = go (current_item r.in_queue) refl (way_in r) can
    where
      go : (o : Option Item) → current_item r.in_queue ≡ o → (l : Option LinkEnd) → (is_some o && is_some l) ≡ true →
          node_worth c (send (with_router n s (send_on r)) (item_output l r.in_queue.current o)) + 1 ≤ node_worth c n
      go None e l h = cc
      go (Some item) e None h = cc
      go (Some item) e (Some l) h = let p = pay.inner item e in
          sent (send_on r) l r.in_queue.current item (omega (arith, routers.lower-send_on c r p.0, p.1))

  -- a sink drops an item, and stays or leaves
  dropped : (leaves : Bool) → r.in_queue.current < c.cap (opposite_end r.end) →
      node_worth c (keep_or_drop n s (drop_item r) leaves) + c.price r.end.pair ≤ node_worth c n
  unfolding keep_or_drop
  dropped true low = omega (arith, node-without c n s r here, routers.lower-drop c r low)
  dropped false low = changed (drop_item r) (c.price r.end.pair) (routers.lower-drop c r low)

  lower-discard : CanPay c r → is_possible r acts.Discard ≡ true → (a : Answer) → Lowers c n s acts.Discard a r
  unfolding is_possible commit_router leaves_by apply output_of discard_output send
  lower-discard pay can a = go (current_item r.in_queue) refl (and_second _ _ can)
    where
      go : (o : Option Item) → current_item r.in_queue ≡ o → is_some o ≡ true →
          node_worth c (send (keep_or_drop n s (drop_item r) (has_gone_next r)) (discard_output r.in_queue.current o)) + 1 ≤ node_worth c n
      go None e h = cc
      go (Some item) e h = let p = pay.inner item e in
          omega (
            arith,
            node-pending c (keep_or_drop n s (drop_item r) (has_gone_next r)) (ends_in item),
            closing-most c (ends_in item),
            dropped (has_gone_next r) p.0,
            p.1,
          )

  -- a sink retires: what it was worth pays for Gone
  lower-retire : CanPay c r → is_possible r acts.Retire ≡ true → (a : Answer) → Lowers c n s acts.Retire a r
  unfolding commit_router keep_or_drop leaves_by apply output_of retire_output send
  lower-retire pay can a = go r.outward.primary
    where
      enough : 6 ≤ router_worth c r
      enough = let p = pay.gone can in omega (arith, routers.lower-pop_out c r p.0, p.1)

      go : (o : Option LinkEnd) → node_worth c (send (without_router n s) (retire_output o (next_number r))) + 1 ≤ node_worth c n
      go None = omega (arith, node-without c n s r here, enough)
      go (Some e) = omega (arith, node-without c n s r here, enough, node-sent c (without_router n s) e (next_number r) Gone)

  lower-finish_out : is_possible r acts.FinishOut ≡ true → (a : Answer) → Lowers c n s acts.FinishOut a r
  unfolding is_possible commit_router keep_or_drop leaves_by apply output_of send can_finish
  lower-finish_out can a = changed (finish_out r) 1 (routers.lower-finish_out c r (and_first _ _ can))

  lower-finish_in : is_possible r acts.FinishIn ≡ true → (a : Answer) → Lowers c n s acts.FinishIn a r
  unfolding is_possible commit_router keep_or_drop leaves_by apply output_of send can_finish
  lower-finish_in can a = changed (finish_in r) 1 (routers.lower-finish_in c r (and_first _ _ can))

  lower-leave : is_possible r acts.Leave ≡ true → (a : Answer) → Lowers c n s acts.Leave a r
  unfolding is_possible commit_router keep_or_drop leaves_by apply output_of send
  lower-leave can a = omega (arith, node-without c n s r here, routers.proxy-some c r (and_first _ _ can))

  lower-rest : r.flagged ≡ true → (a : Answer) → Lowers c n s acts.Rest a r
  unfolding commit_router keep_or_drop leaves_by apply output_of send
  lower-rest up a = changed (rest r) 1 (routers.lower-rest c r up)

  lower-mark : is_possible r acts.Mark ≡ true → (a : Answer) → IsAnswerOf acts.Mark a → Lowers c n s acts.Mark a r
  unfolding is_possible commit_router keep_or_drop leaves_by apply output_of send
  lower-mark can (answers.Marked word was) is = changed (mark_side r was) 1
      (routers.lower-mark c r was (and_first _ _ can) (not-true r.marked (and_first _ _ (and_second (is_on_central r) _ can))))
  lower-mark can other is = absurd is

  lower-wake : is_possible r acts.Wake ≡ true → (a : Answer) → Lowers c n s acts.Wake a r
  unfolding is_possible commit_router keep_or_drop leaves_by apply output_of message_output flush_message send message_worth
  lower-wake can a = go r.outward.primary
    where
      less : node_worth c (with_router n s (wake_other r)) + 6 ≤ node_worth c n
      less = changed (wake_other r) 6 (routers.lower-wake c r (and_first _ _ can))

      go : (o : Option LinkEnd) → node_worth c (send (with_router n s (wake_other r))
          (message_output (flush_message o))) + 1 ≤ node_worth c n
      go None = omega (arith, less)
      go (Some e) = omega (
        arith,
        less,
        node-push c (with_router n s (wake_other r)) e.other (messages.Flush e.link (opposite e.side)),
      )

  unbegun : is_ready r ≡ true → is_unbegun r ≡ true
  unbegun ready = both (is_proxy r) _ (and_first _ _ ready) (routers.central-some r (and_first _ _ (and_second (is_proxy r) _ ready)))

  -- what a ready router hasn't: a try that failed, a want of words
  fresh : is_ready r ≡ true → (r.dry ≡ false) × (r.tried ≡ false)
  fresh ready =
      let last = and_second (not (decays r)) _ (and_second r.marked _ (and_second (is_on_central r) _ (and_second (is_proxy r) _ ready))) in
      (not-true r.dry (and_first _ _ last), not-true r.tried (and_second (not r.dry) _ last))

  lower-claim : is_possible r acts.Claim ≡ true → (a : Answer) → IsAnswerOf acts.Claim a → Lowers c n s acts.Claim a r
  unfolding is_possible commit_router keep_or_drop leaves_by apply output_of send
  lower-claim can (answers.Claimed i) is = changed (claim_word r i) 1
      (routers.lower-claim c r i (unbegun (and_first _ _ can)) (none-is r.spare (and_second (is_ready r) _ can))
      (fresh (and_first _ _ can)).0)
  lower-claim can answers.NoWord is = changed (run_dry r) 1
      (routers.lower-dry c r (unbegun (and_first _ _ can)) (none-is r.spare (and_second (is_ready r) _ can)) (fresh (and_first _ _ can)).0)
  lower-claim can other is = absurd is

  -- who may try for the lock is a proxy that hasn't begun, or a terminal
  locker : IsAble r → routers.IsLocker r
  locker is = elim is.kind [
    | inl k ↦ inl (both (is_proxy r) _ k.proxy (routers.central-some r is.central))
    | inr k ↦ inr (and_first (is_terminal r) r.closed (and_first (is_sink r) _ k), and_second (is_terminal r) r.closed (and_first (is_sink r) _ k))
  ]

  lower-lock : is_possible r acts.Lock ≡ true → (a : Answer) → IsAnswerOf acts.Lock a → Lowers c n s acts.Lock a r
  unfolding commit_router keep_or_drop leaves_by apply output_of send
  lower-lock can (answers.Locked w) is = let k = able-tells r can in changed (take_lock r) 1 (routers.lower-lock c r (locker k) k.free)
  lower-lock can (answers.Waiting w) is = let k = able-tells r can in changed (fail_lock r) 1 (routers.lower-try c r (locker k) k.untried)
  lower-lock can (answers.Refused w) is = let k = able-tells r can in changed (fail_lock r) 1 (routers.lower-try c r (locker k) k.untried)
  lower-lock can other is = absurd is

  lower-begin : is_possible r acts.Begin ≡ true → (a : Answer) → Lowers c n s acts.Begin a r
  unfolding is_possible commit_router keep_or_drop leaves_by apply output_of message_output begin_message send message_worth
  lower-begin can a = go (inward_edge r).primary r.outward.primary r.spare
    where
      start : is_unbegun r ≡ true
      start = both (is_proxy r) _ (and_first _ _ can)
          (routers.central-some r (and_first _ _ (and_second r.holds _ (and_second (is_proxy r) _ can))))

      less : node_worth c (with_router n s (begin_bypass r)) + 39 ≤ node_worth c n
      less = changed (begin_bypass r) 39 (routers.lower-begin c r start)

      told : (inner outer : LinkEnd) (i : ℕ) (o : Option ℕ) → node_worth c (send (with_router n s (begin_bypass r))
          (message_output (option_map (λ old. peer_message inner outer old i) o))) + 1 ≤ node_worth c n
      told inner outer i None = omega (arith, less)
      told inner outer i (Some old) = omega (
        arith,
        less,
        node-push c (with_router n s (begin_bypass r)) inner.other (peer_message inner outer old i).message,
      )

      go : (inner outer : Option LinkEnd) (i : Option ℕ) →
          node_worth c (send (with_router n s (begin_bypass r)) (message_output (begin_message inner outer i))) + 1 ≤ node_worth c n
      go None outer i = omega (arith, less)
      go (Some e) None i = omega (arith, less)
      go (Some e) (Some d) None = omega (arith, less)
      go (Some e) (Some d) (Some i) = told e d i (word_of (Some d))

  -- an act that may be taken and uses something up
  pub router-acted : CanPay c r → (act : RouterAct) (a : Answer) → may_take r act ≡ true → spends r act ≡ true → IsAnswerOf act a →
      Lowers c n s act a r
  unfolding is_rest spends
  router-acted pay acts.SendOut a may up is = lower-send_out pay (or-none _ may) a
  router-acted pay acts.SendIn a may up is = lower-send_in pay (or-none _ may) a
  router-acted pay acts.Discard a may up is = lower-discard pay (or-none _ may) a
  router-acted pay acts.FinishOut a may up is = lower-finish_out (or-none _ may) a
  router-acted pay acts.FinishIn a may up is = lower-finish_in (or-none _ may) a
  router-acted pay acts.Leave a may up is = lower-leave (or-none _ may) a
  router-acted pay acts.Mark a may up is = lower-mark (or-none _ may) a is
  router-acted pay acts.Wake a may up is = lower-wake (or-none _ may) a
  router-acted pay acts.Claim a may up is = lower-claim (or-none _ may) a is
  router-acted pay acts.Lock a may up is = lower-lock (or-none _ may) a is
  router-acted pay acts.Begin a may up is = lower-begin (or-none _ may) a
  router-acted pay acts.Retire a may up is = lower-retire pay (or-none _ may) a
  router-acted pay acts.Unlock a may up is = cc
  router-acted pay acts.Rest a may up is = lower-rest up a

-- a pending close
pub pending-closed : (c : Rates) (n : Node) (end : End) (a : Answer) → 1 ≤ length n.pending →
    node_worth c (commit n (Close end) a) + 1 ≤ node_worth c n
unfolding commit on_found
pending-closed c n end a some = go (terminal_of x end) refl
  where
    x : Node
    x = record n { pending = rest_of n.pending }

    go : (o : Option Found) → terminal_of x end ≡ o → node_worth c (on_found x o (close_at_router x)) + 1 ≤ node_worth c n
    go None e = omega (arith, fewer c n some)
    go (Some f) e = omega (
      arith,
      fewer c n some,
      node-with c x f.serial (close_router f.router) f.router (found_tells x (is_terminal_of end) f e).0,
      routers.more-close c f.router,
    )
