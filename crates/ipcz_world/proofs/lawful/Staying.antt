-- What stays with the terminals is used by no turn, if no unread item carries an end.
use Rattle.std.specs.Prelude.{◌≡◌, ◌≤◌, ◌<◌, ℕ, ◌+◌, ◌*◌, Bool, true, false, cond, ◌||◌, ◌++◌, if◌then◌else◌, nat_lt, Option, Some, None, is_some}
use Rattle.std.specs.Prelude.{List, [], ◌∷◌, length, refl}
use Rattle.std.proofs.Common.{arith, ap, subst, sym}
use Rattle.std.specs.Ordering.{nat_cmp}
use Rattle.ipcz_base.proofs.Totals.{total-empty}
use Rattle.ipcz_world.proofs.Vocabulary.{End, Item, Message, total_list, ends_in, Router, Node, bare_node, RouterAct, Act, Close, Hand, router_in}
use Rattle.ipcz_world.proofs.Vocabulary.{commit, World, node_at, mail_at, way, router_at, Books, item_at, is_terminal, answer_of, set_node, set_word}
use Rattle.ipcz_world.proofs.Vocabulary.{set_claimed, set_mail, after_act, can_take, hand_message, messages_in, output_of, primary_word, place_at}
use Rattle.ipcz_world.proofs.Vocabulary.{with_router, source_of, drop_item, has_gone_next, Gone, may_take, is_rest, apply, leaves_by, discard_output}
use Rattle.ipcz_world.proofs.Vocabulary.{next_number, Answer, Look, Post, Idle, on_router, without_router, send, deliver, commit_router, keep_or_drop}
use Rattle.ipcz_world.proofs.Vocabulary.{post_of, Mail, Turn, after_turn, advance, Routes, routes_after, routes_after_turn, source_for, touch}
use Rattle.ipcz_world.proofs.Vocabulary.{touch_word, after_router_act, after_hand, after_look, after_post, full_message, may_act, turn_event, Lawful}
use Rattle.ipcz_world.proofs.Vocabulary.{StepKeepsLawful, Rates, worth, router_worth, node_worth, rank}
use Rattle.ipcz_base.specs.Ends.{opposite_end}
use Rattle.ipcz_base.specs.declared.link_end.LinkEnd.{LinkEnd}
use Rattle.ipcz_router.specs.ActTable.{is_possible}
use Rattle.ipcz_router.specs.ActEffects.{retire_output}
use Rattle.ipcz_router.specs.declared.act.RouterAct.TheVariants as acts
use Rattle.ipcz_router.specs.declared.act.Answer.TheVariants as answers
use Rattle.ipcz_seq.specs.Queue.{current_item}
use Rattle.ipcz_node.specs.declared.act.Act.TheVariants.{Router as OfRouter}
use Rattle.ipcz_world.specs.declared.mail.Mail.TheVariants as mails
use Rattle.ipcz_world.specs.declared.step.Reply.TheVariants as replies
use Rattle.ipcz_world.specs.Turns.{is_first_pending}
use Rattle.ipcz_world.specs.SettleBounds.{CarryNone, plain_rates}
use Rattle.ipcz_world.specs.Ranks.{moving_worth, IsRated, IsTaken, AreTurns, is_unlock, uses_up, times_used, unlock_count}
use Rattle.ipcz_world.specs.Ranks.{TurnsKeepRates}
use Rattle.ipcz_world.specs.PutBounds.{router_stays, node_stays, stays, pending_closes, is_discard, discard_count, is_retire, retire_count, StayingIsUnused}
use Rattle.ipcz_world.proofs.facts.Tests.{and_second}
use Rattle.ipcz_world.proofs.frames.Booking.{out_numbers}
use Rattle.ipcz_world.proofs.frames.Totalling.{total_list-put_place}
use Rattle.ipcz_world.proofs.lawful.RouterStays.{stays-most}
use Rattle.ipcz_world.proofs.lawful.RouterWorths.{lower-drop, worth-most}
use Rattle.ipcz_world.proofs.lawful.NodeWorths.{node-with, node-without, node-pending, node-sent}
use Rattle.ipcz_world.proofs.lawful.NodeActs.{CanPay}
use Rattle.ipcz_world.proofs.lawful.NodeStays.{KeepsBut, IsBare, lost_by, router-keeps, keeps-closed, keeps-delivered}
use Rattle.ipcz_world.proofs.lawful.WorldRanks.{IsSameBut, same-touched, rank-set_node, answered}
use Rattle.ipcz_world.proofs.lawful.Paying.{can_pay}
use Rattle.ipcz_world.proofs.lawful.Turning.{turned, stepped}
use Rattle.ipcz_world.proofs.lawful.Settling.{plain_are_rated}
use Rattle.ipcz_world.proofs.lawful.Limits.{mailed-bare, total_list-most, total-most}

-- a node is another
bare-stays : (c : Rates) → node_stays c (bare_node 0 0) ≡ 0
bare-stays c = total-empty nat_cmp (λ serial r. router_stays c r)

pub stays-set_node : (c : Rates) (w : World) (n : ℕ) (x : Node) →
    stays c (set_node w n x) + node_stays c (node_at w n) ≡ stays c w + node_stays c x
unfolding stays set_node node_at
stays-set_node c w n x = total_list-put_place (node_stays c) (bare_node 0 0) w.nodes n x (bare-stays c)

pub pending-set_node : (w : World) (n : ℕ) (x : Node) →
    pending_closes (set_node w n x) + length (node_at w n).pending ≡ pending_closes w + length x.pending
unfolding pending_closes set_node node_at
pending-set_node w n x = total_list-put_place (λ y. length y.pending) (bare_node 0 0) w.nodes n x refl

-- what stays in a world isn't less in another but for so much, and for six for each close that is done
abbrev KeepsWorld : Rates → World → World → ℕ → Type 0
KeepsWorld c w v k = stays c w + 6 * pending_closes v ≤ stays c v + 6 * pending_closes w + k

by-node : (c : Rates) (w : World) (n : ℕ) (x : Node) (k : ℕ) → KeepsBut c (node_at w n) x k → KeepsWorld c w (set_node w n x) k
by-node c w n x k h = omega (arith, stays-set_node c w n x, pending-set_node w n x, h)

-- words have no part in it
record HasSameNodes (c : Rates) (w v : World) : Type 0 where
  stays : stays c v ≡ stays c w
  pending : pending_closes v ≡ pending_closes w
  node : (n : ℕ) → node_at v n ≡ node_at w n

same-nodes : (c : Rates) (w v : World) → v.nodes ≡ w.nodes → HasSameNodes c w v
unfolding stays pending_closes node_at
same-nodes c w v e = record {
  stays = ap (total_list (node_stays c)) e;
  pending = ap (total_list (λ n. length n.pending)) e;
  node = λ n. ap (λ ns. place_at (bare_node 0 0) ns n) e;
}

word-nodes : (w : World) (r : Router) (act : RouterAct) (o : Option ℕ) → (touch_word w r.end.side (source_of r) act o).nodes ≡ w.nodes
unfolding touch_word set_word
word-nodes w r act None = refl
word-nodes w r act (Some i) = refl

claimed-nodes : (w : World) (b : Bool) → (if b then set_claimed w (w.claimed + 1) else w).nodes ≡ w.nodes
unfolding set_claimed
claimed-nodes w true = refl
claimed-nodes w false = refl

touched-nodes : (w : World) (r : Router) (act : RouterAct) → (touch w r act).nodes ≡ w.nodes
unfolding touch
touched-nodes w r acts.Claim = claimed-nodes w (nat_lt w.claimed w.size)
touched-nodes w r acts.Mark = word-nodes w r acts.Mark (primary_word r)
touched-nodes w r acts.Wake = word-nodes w r acts.Wake (primary_word r)
touched-nodes w r acts.Lock = word-nodes w r acts.Lock (primary_word r)
touched-nodes w r acts.Unlock = word-nodes w r acts.Unlock (primary_word r)
touched-nodes w r other = refl

-- if each number is worth six no more, no item carries an end
no-ends : (c : Rates) (ends : List End) (p : ℕ) → p ≡ 6 → 6 + moving_worth c ends ≤ p → ends ≡ []
no-ends c [] p six h = refl
no-ends c (e ∷ es) p six h = absurd (omega (arith, six, h))

-- behind what its end has put a terminal has nothing
pub nothing-behind : (w : World) (b : Books) (g : Routes) → Lawful w b g → (n s : ℕ) (r : Router) → n < w.count → router_in (node_at w n) s ≡ Some r →
    is_terminal r ≡ true → item_at r.out_queue (next_number r + 1) ≡ None
unfolding router_at
nothing-behind w b g law n s r l here t = go (item_at r.out_queue (next_number r + 1)) refl
  where
    go : (o : Option Item) → item_at r.out_queue (next_number r + 1) ≡ o → item_at r.out_queue (next_number r + 1) ≡ None
    go None e = e
    go (Some item) e = absurd (omega (
      arith,
      (out_numbers w b law.records (record { node = n; serial = s }) r (next_number r + 1) item law.conserved l here e).1,
      law.conserved.reach (record { node = n; serial = s }) r here t,
    ))

module _ (c : Rates) (w : World) (b : Books) (g : Routes) (law : Lawful w b g) (rated : IsRated c b) (six : (pair : ℕ) → c.price pair ≡ 6) where
  pub none : CarryNone b
  none e n item l at = no-ends c (ends_in item) (c.price e.pair) (six e.pair) (rated.pays e n item l at)

  paying : (n s : ℕ) (r : Router) → n < w.count → router_in (node_at w n) s ≡ Some r → CanPay c r
  unfolding router_at
  paying n s r l here = can_pay w b law.records c (record { node = n; serial = s }) r law.inv l here rated

  pub bare : (n s : ℕ) (r : Router) → n < w.count → router_in (node_at w n) s ≡ Some r → IsBare c r
  bare n s r l here = let pay = paying n s r l here in record {
    out = λ item e. no-ends c (ends_in item) (c.price r.end.pair) (six r.end.pair) (pay.out item e).1;
    inner = λ item e. no-ends c (ends_in item) (c.price r.end.pair) (six r.end.pair) (pay.inner item e).1;
    price = six r.end.pair;
  }

  handed : (n from : ℕ) (x : Mail) → mail_at w (way w from n) ≡ x → KeepsWorld c w (after_hand w n from (hand_message x)) 0
  unfolding after_hand hand_message set_mail stays pending_closes messages_in
  handed n from mails.Empty e = omega arith
  handed n from (mails.Full m) e = omega arith
  handed n from (mails.Hand m) e =
      by-node c w n (deliver (node_at w n) from m (source_for w m)) 0
      (keeps-delivered c (node_at w n) from m (source_for w m) (mailed-bare w b g law none (way w from n) m (mailed (mail_at w (way w from n)) e)))
    where
      mailed : (y : Mail) → y ≡ mails.Hand m → messages_in y ≡ m ∷ []
      mailed y q = ap messages_in q

  looked : (n from : ℕ) (x : Mail) → KeepsWorld c w (after_look w n from (full_message x)) 0
  unfolding after_look full_message set_mail stays pending_closes commit
  looked n from mails.Empty = omega arith
  looked n from (mails.Hand m) = omega arith
  looked n from (mails.Full m) = by-node c w n (record (node_at w n) { hand = Some from }) 0 (omega arith)

  posted : (n to : ℕ) (o : Option Message) → KeepsWorld c w (after_post w n to o) 0
  unfolding after_post set_mail stays pending_closes commit
  posted n to None = omega arith
  posted n to (Some m) = by-node c w n (commit (node_at w n) (Post to) answers.Plain) 0 (same (node_at w n))
    where
      same : (x : Node) → KeepsBut c x (commit x (Post to) answers.Plain) 0
      same x = omega arith

  -- what of what stays an act takes
  abbrev lost_at : Option Router → RouterAct → ℕ
  lost_at None act = 0
  lost_at (Some r) act = lost_by c r act

  routed : (n s : ℕ) (act : RouterAct) (o : Option Router) → n < w.count → router_in (node_at w n) s ≡ o → may_act o act ≡ true →
      KeepsWorld c w (after_router_act w n s act o) (lost_at o act)
  unfolding after_router_act may_act commit on_router
  routed n s act None l e may = cc
  routed n s act (Some r) l e may =
      let x : Node = node_at w n in
      let a : Answer = answer_of w r act in
      let same : HasSameNodes c w (touch w r act) = same-nodes c w (touch w r act) (touched-nodes w r act) in
      let done : on_router x (router_in x s) (commit_router x s act a) ≡ commit_router x s act a r =
      ap (λ o. on_router x o (commit_router x s act a)) e in
      let y : Node = on_router x (router_in x s) (commit_router x s act a) in
      omega (
        arith,
        stays-set_node c (touch w r act) n y,
        pending-set_node (touch w r act) n y,
        ap (node_stays c) (same.node n),
        ap (λ z. length z.pending) (same.node n),
        ap (node_stays c) done,
        ap (λ z. length z.pending) done,
        same.stays,
        same.pending,
        router-keeps c x s r e (bare n s r l e) act a may (answered w r act may),
      )

  closed : (n : ℕ) (end : End) → n < w.count → is_first_pending (node_at w n).pending end ≡ true → KeepsWorld c w (after_act w n (Close end)) 0
  unfolding after_act is_first_pending
  closed n end l can = by-node c w n (commit (node_at w n) (Close end) answers.Plain) 0
      (keeps-closed c (node_at w n) end answers.Plain (some (node_at w n).pending can)
      (λ s r here t. (six r.end.pair, nothing-behind w b g law n s r l here t)))
    where
      some : (es : List End) → is_first_pending es end ≡ true → 1 ≤ length es
      some [] h = cc
      some (x ∷ xs) h = omega arith

  -- an act of a node
  abbrev lost_of : ℕ → Act → ℕ
  lost_of n (OfRouter s act) = lost_at (router_in (node_at w n) s) act
  lost_of n other = 0

  kept : (n : ℕ) (act : Act) → n < w.count → can_take w n act ≡ true → KeepsWorld c w (after_act w n act) (lost_of n act)
  unfolding after_act can_take router_at
  kept n (Hand from) l can = handed n from (mail_at w (way w from n)) refl
  kept n (Look from) l can = looked n from (mail_at w (way w from n))
  kept n (Post to) l can = posted n to (post_of (node_at w n) (Post to))
  kept n (Close end) l can = closed n end l can
  kept n (OfRouter s act) l can = routed n s act (router_in (node_at w n) s) l refl can
  kept n Idle l can = omega arith

  -- an act of a router lowers the rank as it lowers its node's worth
  ranked : (n s : ℕ) (act : RouterAct) (r : Router) (k m : ℕ) → router_in (node_at w n) s ≡ Some r →
      ((a : Answer) → node_worth c (commit_router (node_at w n) s act a r) + k ≤ node_worth c (node_at w n) + m) →
      rank c (after_router_act w n s act (Some r)) + k ≤ rank c w + m
  unfolding after_router_act commit on_router
  ranked n s act r k m e less =
      let x : Node = node_at w n in
      let a : Answer = answer_of w r act in
      let same : IsSameBut c w (touch w r act) = same-touched c w r act in
      let done : on_router x (router_in x s) (commit_router x s act a) ≡ commit_router x s act a r =
      ap (λ o. on_router x o (commit_router x s act a)) e in
      omega (
        arith,
        rank-set_node c (touch w r act) n (on_router x (router_in x s) (commit_router x s act a)),
        ap (node_worth c) (same.node n),
        ap (node_worth c) done,
        same.rank,
        less a,
      )

  -- a discard lowers the rank by six, or by what the router was worth that leaves
  dropped : (n s : ℕ) (o : Option Router) → n < w.count → router_in (node_at w n) s ≡ o → may_act o acts.Discard ≡ true →
      rank c (after_router_act w n s acts.Discard o) + lost_at o acts.Discard ≤ rank c w
  unfolding may_act is_possible is_rest send discard_output commit_router keep_or_drop leaves_by apply output_of lost_by
  dropped n s None l e may = cc
  dropped n s (Some r) l e may = omega (
    arith,
    ranked n s acts.Discard r (cond (has_gone_next r) (router_stays c r) 6) 0 e
        (λ a. omega (arith, lowered a (paying n s r l e) (bare n s r l e) (item_there may))),
  )
    where
      x : Node
      x = node_at w n

      item_there : may_take r acts.Discard ≡ true → is_some (current_item r.in_queue) ≡ true
      item_there may = go (is_possible r acts.Discard) refl may
        where
          go : (t : Bool) → is_possible r acts.Discard ≡ t → (t || false) ≡ true → is_some (current_item r.in_queue) ≡ true
          go true q h = and_second _ _ q
          go false q h = cc

      by : (t : Bool) (item : Item) → ends_in item ≡ [] → r.in_queue.current < c.cap (opposite_end r.end) →
          node_worth c (record (keep_or_drop x s (drop_item r) t) { pending = (keep_or_drop x s (drop_item r) t).pending ++ ends_in item }) +
          cond t (router_stays c r) 6 ≤ node_worth c x
      by true item free low = omega (
        arith,
        node-pending c (without_router x s) (ends_in item),
        ap length free,
        node-without c x s r e,
        stays-most c r,
      )
      by false item free low = omega (
        arith,
        node-pending c (with_router x s (drop_item r)) (ends_in item),
        ap length free,
        node-with c x s (drop_item r) r e,
        lower-drop c r low,
        six r.end.pair,
      )

      lowered : (a : Answer) → CanPay c r → IsBare c r → is_some (current_item r.in_queue) ≡ true →
          node_worth c (commit_router x s acts.Discard a r) + cond (has_gone_next r) (router_stays c r) 6 ≤ node_worth c x
      lowered a pay is h = go (current_item r.in_queue) refl h
        where
          go : (o : Option Item) → current_item r.in_queue ≡ o → is_some o ≡ true →
              node_worth c (send (keep_or_drop x s (drop_item r) (has_gone_next r)) (discard_output r.in_queue.current o)) +
              cond (has_gone_next r) (router_stays c r) 6 ≤ node_worth c x
          go None q k = cc
          go (Some item) q k = by (has_gone_next r) item (is.inner item q) (pay.inner item q).0

  -- a retire lowers the rank by what the router was worth, but for its message
  left : (n s : ℕ) (o : Option Router) → n < w.count → router_in (node_at w n) s ≡ o → may_act o acts.Retire ≡ true →
      rank c (after_router_act w n s acts.Retire o) + lost_at o acts.Retire ≤ rank c w + 5
  unfolding may_act send commit_router keep_or_drop leaves_by apply output_of retire_output lost_by
  left n s None l e may = cc
  left n s (Some r) l e may = omega (arith, ranked n s acts.Retire r (router_stays c r) 5 e (λ a. go r.outward.primary))
    where
      x : Node
      x = node_at w n

      go : (o : Option LinkEnd) → node_worth c (send (without_router x s) (retire_output o (next_number r))) + router_stays c r ≤ node_worth c x + 5
      go None = omega (arith, node-without c x s r e, stays-most c r)
      go (Some d) = omega (arith, node-without c x s r e, stays-most c r, node-sent c (without_router x s) d (next_number r) Gone)

  -- a turn pays for itself out of what doesn't stay
  abbrev Paid : ℕ → Act → Type 0
  Paid n act =
      worth 1 (uses_up w n act) + (rank c (after_act w n act) + (stays c w + 6 * pending_closes (after_act w n act))) ≤
      rank c w + (stays c (after_act w n act) + (6 * pending_closes w + (6 * worth 1 (is_retire act) +
      (worth 1 (is_discard act) + 2 * worth 1 (is_unlock act)))))

  paid : (n : ℕ) (act : Act) → IsTaken w n act → Paid n act
  unfolding is_discard is_retire is_unlock lost_by after_act can_take router_at
  paid n act is = go (is_discard act) (is_retire act) refl refl
    where
      discard-is : (a : Act) → is_discard a ≡ true → (s : ℕ) × (a ≡ OfRouter s acts.Discard)
      discard-is (OfRouter s acts.Discard) h = (s, refl)
      discard-is other h = cc

      retire-is : (a : Act) → is_retire a ≡ true → (s : ℕ) × (a ≡ OfRouter s acts.Retire)
      retire-is (OfRouter s acts.Retire) h = (s, refl)
      retire-is other h = cc

      none-lost : (a : Act) → is_discard a ≡ false → is_retire a ≡ false → lost_of n a ≡ 0
      none-lost (OfRouter s act) h k = by (router_in (node_at w n) s) act h k
        where
          by : (o : Option Router) (act : RouterAct) → is_discard (OfRouter s act) ≡ false → is_retire (OfRouter s act) ≡ false → lost_at o act ≡ 0
          by None act h k = refl
          by (Some r) acts.Discard h k = cc
          by (Some r) acts.Retire h k = cc
          by (Some r) other h k = refl
      none-lost other h k = refl

      discarded : (s : ℕ) → IsTaken w n (OfRouter s acts.Discard) → Paid n (OfRouter s acts.Discard)
      discarded s d = omega (
        arith,
        kept n (OfRouter s acts.Discard) d.node d.may,
        dropped n s (router_in (node_at w n) s) d.node refl d.may,
        worth-most 1 (uses_up w n (OfRouter s acts.Discard)),
      )

      retired : (s : ℕ) → IsTaken w n (OfRouter s acts.Retire) → Paid n (OfRouter s acts.Retire)
      retired s d = omega (
        arith,
        kept n (OfRouter s acts.Retire) d.node d.may,
        left n s (router_in (node_at w n) s) d.node refl d.may,
        worth-most 1 (uses_up w n (OfRouter s acts.Retire)),
      )

      go : (t u : Bool) → is_discard act ≡ t → is_retire act ≡ u → Paid n act
      go true u e f = let a = discard-is act e in subst (λ x. IsTaken w n x → Paid n x) (sym a.1) (discarded a.0) is
      go false true e f = let a = retire-is act f in subst (λ x. IsTaken w n x → Paid n x) (sym a.1) (retired a.0) is
      go false false e f = omega (arith, kept n act is.node is.may, none-lost act e f, turned c w b g n act law rated is, ap (λ x. worth 1 x) e, ap (λ x. worth 1 x) f)

-- so do turns
pub turns-paid : StepKeepsLawful → TurnsKeepRates → (w v : World) (b d : Books) (g h : Routes) (c : Rates) (turns : List (ℕ × Act)) →
    Lawful w b g → IsRated c b → ((pair : ℕ) → c.price pair ≡ 6) → AreTurns w b g turns v d h →
    times_used w turns + (rank c v + (stays c w + 6 * pending_closes v)) ≤
    rank c w + (stays c v + (6 * pending_closes w + (6 * retire_count turns + (discard_count turns + 2 * unlock_count turns))))
unfolding advance routes_after
turns-paid keeps rates w v b d g h c [] law rated six run =
    let same : rank c v ≡ rank c w = ap (rank c) run.0 in
    let stay : stays c v ≡ stays c w = ap (stays c) run.0 in
    let pend : pending_closes v ≡ pending_closes w = ap pending_closes run.0 in
    omega (arith, same, stay, pend)
turns-paid keeps rates w v b d g h c (t ∷ ts) law rated six run =
    let step = stepped w t.0 t.1 run.0 in
    omega (
      arith,
      paid c w b g law rated six t.0 t.1 run.0,
      turns-paid keeps rates (after_act w t.0 t.1) v (after_turn w b t.0 (turn_event w t.0 t.1)) d
          (routes_after_turn w g t.0 (turn_event w t.0 t.1)) h c ts
          (keeps w (after_act w t.0 t.1) b g (Turn t.0) (replies.Turned (turn_event w t.0 t.1)) law step)
          (rates w (after_act w t.0 t.1) b g c t.0 (replies.Turned (turn_event w t.0 t.1)) law rated step) six run.1,
    )

-- what stays is no more than the rank
pub stays-within : (c : Rates) (w : World) → stays c w ≤ rank c w
unfolding stays rank node_worth
stays-within c w = omega (arith, total_list-most (node_stays c) (node_worth c) w.nodes (λ i n at. within n))
  where
    within : (n : Node) → node_stays c n ≤ node_worth c n
    within n = omega (arith, total-most (router_stays c) (router_worth c) n.routers (stays-most c))

pub staying_is_unused : StepKeepsLawful → TurnsKeepRates → StayingIsUnused
staying_is_unused keeps rates w v b d g h turns law none run = omega (
  arith,
  turns-paid keeps rates w v b d g h (plain_rates b) turns law (plain_are_rated b none) (λ pair. refl) run,
  stays-within (plain_rates b) v,
)
