-- Worlds that do nothing but pass items, and how they stay so: no turn takes an act of a bypass, and what the rank holds for proxies stays.
use Rattle.std.specs.Prelude.{◌≡◌, ◌≤◌, ◌<◌, ℕ, ◌+◌, Bool, true, false, cond, if◌then◌else◌, slice_get, Option, Some, None}
use Rattle.std.specs.Prelude.{List, [], ◌∷◌, length, refl}
use Rattle.std.proofs.Common.{arith, ap, subst, sym, ◌∙◌}
use Rattle.std.proofs.lemmas.Option.{same_Some}
use Rattle.std.specs.Ordering.{nat_cmp}
use Rattle.std.specs.FinMap.{entries}
use Rattle.ipcz_base.specs.Totals.{total_of}
use Rattle.ipcz_base.proofs.Totals.{total-empty}
use Rattle.ipcz_world.proofs.Vocabulary.{End, LinkId, Message, opposite_end, total, total_list, Router, Node, bare_node, RouterAct, Act, Close, Hand}
use Rattle.ipcz_world.proofs.Vocabulary.{outbox, Item, same_end, is_terminal, current_item, is_closed, read, router_in, commit, World, node_at}
use Rattle.ipcz_world.proofs.Vocabulary.{mail_at, way, router_at, Books, answer_of, set_node, set_mail, after_act, can_take, hand_message}
use Rattle.ipcz_world.proofs.Vocabulary.{messages_in, output_of, Answer, Applied, Look, Post, Idle, Happened, on_router, moved_ends, deliver}
use Rattle.ipcz_world.proofs.Vocabulary.{commit_router, post_of, first_of, rest_of, event_of, Mail, Turn, after_turn, has_mark, advance, is_mark}
use Rattle.ipcz_world.proofs.Vocabulary.{is_gone_item, has_gone_next, item_passes, is_sink, Routes, routes_after, routes_after_turn, source_for}
use Rattle.ipcz_world.proofs.Vocabulary.{touch, after_router_act, after_hand, after_look, after_post, full_message, may_act, turn_event, router_seen}
use Rattle.ipcz_world.proofs.Vocabulary.{router_of, Lawful, StepKeepsLawful, Rates, worth, router_worth, node_worth, rank}
use Rattle.ipcz_router.specs.declared.act.RouterAct.TheVariants as acts
use Rattle.ipcz_router.specs.declared.act.Answer.TheVariants as answers
use Rattle.ipcz_router.specs.declared.act.Applied.TheVariants as outputs
use Rattle.ipcz_node.specs.declared.act.Act.TheVariants.{Router as OfRouter}
use Rattle.ipcz_node.specs.declared.happened.Happened.TheVariants as events
use Rattle.ipcz_node.specs.Node.{outbox_count}
use Rattle.ipcz_node.specs.Events.{event_at, router_event, send_event, hand_event}
use Rattle.ipcz_world.specs.declared.mail.Mail.TheVariants as mails
use Rattle.ipcz_world.specs.declared.step.Reply.TheVariants as replies
use Rattle.ipcz_world.specs.Books.{after_discard, after_retire}
use Rattle.ipcz_world.proofs.facts.Tests.{and_first, and_second}
use Rattle.ipcz_world.proofs.facts.LinkTests.{same_end-tells, opposite_end-twice}
use Rattle.ipcz_world.specs.Turns.{is_first_pending}
use Rattle.ipcz_world.specs.Turns.{hand_seen}
use Rattle.ipcz_world.specs.Ranks.{IsRated, AreTurns, TurnsKeepRates, is_unlock, unlock_count}
use Rattle.ipcz_world.specs.PutBounds.{router_stays, node_stays, stays, is_retire, retire_count}
use Rattle.ipcz_world.proofs.frames.Totalling.{total_list-put_place}
use Rattle.ipcz_world.proofs.lawful.Limits.{mailed-bare}
use Rattle.ipcz_world.proofs.lawful.WorldRanks.{none-worth}
use Rattle.ipcz_world.proofs.lawful.Paying.{ComesOfPuts, comes_of_puts}
use Rattle.ipcz_world.proofs.lawful.Turning.{stepped}
use Rattle.ipcz_world.proofs.lawful.Staying.{none, bare}
use Rattle.ipcz_world.proofs.lawful.CalmRouters.{is_passing, router_keeps, calm-passes, keeps-most}
use Rattle.ipcz_world.proofs.lawful.CalmNodes.{message_stir, router_stir, node_stir, node_keeps, Passes, IsPut, router-calm}
use Rattle.ipcz_world.proofs.lawful.CalmNodes.{passes-delivered, passes-acted}

-- what is astir in a world apart from items that are passed
unfoldable pub mail_stir : Mail → ℕ
mail_stir mails.Empty = 0
mail_stir (mails.Full m) = message_stir m
mail_stir (mails.Hand m) = message_stir m

unfoldable pub stir : World → ℕ
stir w = total_list node_stir w.nodes + total_list mail_stir w.mail

-- what the rank holds for its proxies
unfoldable pub keeps : Rates → (End → ℕ) → World → ℕ
keeps c marks w = total_list (node_keeps c marks) w.nodes

bare-stir : node_stir (bare_node 0 0) ≡ 0
unfolding node_stir
bare-stir = omega (arith, none-worth (total_list message_stir) outbox_count refl, total-empty nat_cmp (λ serial r. router_stir r))

bare-keeps : (c : Rates) (marks : End → ℕ) → node_keeps c marks (bare_node 0 0) ≡ 0
unfolding node_keeps
bare-keeps c marks = total-empty nat_cmp (λ serial r. router_keeps c marks r)

-- a node, or a mailbox, is another
stir-set_node : (w : World) (n : ℕ) (x : Node) → stir (set_node w n x) + node_stir (node_at w n) ≡ stir w + node_stir x
unfolding stir set_node node_at
stir-set_node w n x = omega (arith, total_list-put_place node_stir (bare_node 0 0) w.nodes n x bare-stir)

keeps-set_node : (c : Rates) (marks : End → ℕ) (w : World) (n : ℕ) (x : Node) →
    keeps c marks (set_node w n x) + node_keeps c marks (node_at w n) ≡ keeps c marks w + node_keeps c marks x
unfolding keeps set_node node_at
keeps-set_node c marks w n x = total_list-put_place (node_keeps c marks) (bare_node 0 0) w.nodes n x (bare-keeps c marks)

stir-set_mail : (w : World) (k : ℕ) (x : Mail) → stir (set_mail w k x) + mail_stir (mail_at w k) ≡ stir w + mail_stir x
unfolding stir set_mail mail_at mail_stir
stir-set_mail w k x = omega (arith, total_list-put_place mail_stir mails.Empty w.mail k x refl)

-- nothing more is astir in the second world, and its proxies keep what the first one's had
pub record PassesOn (c : Rates) (marks : End → ℕ) (w v : World) : Type 0 where
  pub stir : stir v ≤ stir w
  pub keeps : keeps c marks w ≤ keeps c marks v

pub by-node : (c : Rates) (marks : End → ℕ) (w : World) (n : ℕ) (x : Node) → Passes c marks (node_at w n) x →
    PassesOn c marks w (set_node w n x)
by-node c marks w n x h =
    record { stir = omega (arith, stir-set_node w n x, h.stir); keeps = omega (arith, keeps-set_node c marks w n x, h.keeps) }

-- a mailbox is another in which no more is astir but for so much
with-mail : (c : Rates) (marks : End → ℕ) (w v : World) (k m : ℕ) (x : Mail) → stir v + m ≤ stir w → mail_stir x ≤ mail_stir (mail_at v k) + m →
    keeps c marks w ≤ keeps c marks v → PassesOn c marks w (set_mail v k x)
unfolding set_mail keeps
with-mail c marks w v k m x less mail kept = record { stir = omega (arith, stir-set_mail v k x, mail, less); keeps = kept }

mail-set_node : (w : World) (n : ℕ) (x : Node) (k : ℕ) → mail_at (set_node w n x) k ≡ mail_at w k
unfolding set_node mail_at
mail-set_node w n x k = refl

-- an act that passes an item touches no word
untouched : (w : World) (r : Router) (act : RouterAct) → is_passing act ≡ true → touch w r act ≡ w
unfolding touch is_passing
untouched w r acts.SendOut is = refl
untouched w r acts.SendIn is = refl
untouched w r acts.Discard is = refl
untouched w r acts.Rest is = refl
untouched w r other is = cc

-- if nothing is astir, none of its nodes is, and what is in its mailboxes is items
pub still-node : (w : World) (n : ℕ) → stir w ≡ 0 → node_stir (node_at w n) ≡ 0
still-node w n still = omega (arith, stir-set_node w n (bare_node 0 0), bare-stir, still)

still-mail : (w : World) (k : ℕ) → stir w ≡ 0 → mail_stir (mail_at w k) ≡ 0
unfolding mail_stir
still-mail w k still = omega (arith, stir-set_mail w k mails.Empty, still)

none-pending : (n : Node) → node_stir n ≡ 0 → n.pending ≡ []
unfolding node_stir
none-pending n still = empty n.pending (omega (arith, still))
  where
    empty : (es : List End) → length es ≡ 0 → es ≡ []
    empty [] h = refl
    empty (e ∷ es) h = absurd (omega (arith, h))

-- what an act of a router is seen to do is no close, so that nothing is put by it
sent-put : (w : World) (b : Books) (n : ℕ) (x : Node) (event : ℕ → LinkId → List End → Happened) (o : Applied) →
    ((i : ℕ) (link : LinkId) (ends : List End) → (after_turn w b n (event i link ends)).put ≡ b.put) →
    (after_turn w b n (send_event x event o)).put ≡ b.put
unfolding send_event after_turn
sent-put w b n x event (outputs.Sent link i item) same = same i link.link (moved_ends x link item)
sent-put w b n x event other same = refl

discarded-put : (b : Books) (o : Option Router) → (after_discard b o).put ≡ b.put
unfolding after_discard
discarded-put b None = refl
discarded-put b (Some r) = refl

router-put : (w : World) (b : Books) (n : ℕ) (x : Node) (s : ℕ) (r : Router) (act : RouterAct) (a : Answer) → is_passing act ≡ true →
    (after_turn w b n (router_event x s r act a)).put ≡ b.put
unfolding router_event after_turn is_passing
router-put w b n x s r acts.SendOut a is = sent-put w b n x (λ i link ends. events.SendOut s i link ends) (output_of r acts.SendOut) (λ i link ends. refl)
router-put w b n x s r acts.SendIn a is = sent-put w b n x (λ i link ends. events.SendIn s i link ends) (output_of r acts.SendIn) (λ i link ends. refl)
router-put w b n x s r acts.Discard a is = go (has_gone_next r)
  where
    go : (t : Bool) → (after_turn w b n (if t then events.DiscardLeave s r.in_queue.current else events.Discard s r.in_queue.current)).put ≡ b.put
    go true = discarded-put b (router_of w n s)
    go false = discarded-put b (router_of w n s)
router-put w b n x s r acts.Rest a is = refl
router-put w b n x s r other a is = cc

module _ (w : World) (still : stir w ≡ 0) where
  -- a router passes an item, or rests
  pub passing : (n s : ℕ) (act : RouterAct) (o : Option Router) → router_in (node_at w n) s ≡ o → may_act o act ≡ true → is_passing act ≡ true
  unfolding may_act
  passing n s act None e may = cc
  passing n s act (Some r) e may = calm-passes r act (router-calm (node_at w n) s r e (still-node w n still)) may

  unclosed : (n : ℕ) (end : End) {X : Type 0} → is_first_pending (node_at w n).pending end ≡ true → X
  unfolding is_first_pending
  unclosed n end can =
      let odd : false ≡ true = ap (λ es. is_first_pending es end) (sym (none-pending (node_at w n) (still-node w n still))) ∙ can in cc

  -- so no turn is an unlock, and none puts anything
  pub unlocked : (n : ℕ) (act : Act) → can_take w n act ≡ true → is_unlock act ≡ false
  unfolding is_unlock can_take is_passing router_at
  unlocked n (OfRouter s act) can = go act (passing n s act (router_in (node_at w n) s) refl can)
    where
      go : (act : RouterAct) → is_passing act ≡ true → is_unlock (OfRouter s act) ≡ false
      go acts.Unlock is = cc
      go other is = refl
  unlocked n other can = refl

  -- nor a retire
  pub unretired : (n : ℕ) (act : Act) → can_take w n act ≡ true → is_retire act ≡ false
  unfolding is_retire can_take is_passing router_at
  unretired n (OfRouter s act) can = go act (passing n s act (router_in (node_at w n) s) refl can)
    where
      go : (act : RouterAct) → is_passing act ≡ true → is_retire (OfRouter s act) ≡ false
      go acts.Retire is = cc
      go other is = refl
  unretired n other can = refl

  pub same-put : (b : Books) (n : ℕ) (act : Act) → can_take w n act ≡ true → (after_turn w b n (turn_event w n act)).put ≡ b.put
  unfolding turn_event can_take router_at event_of event_at router_seen hand_seen hand_event after_turn
  same-put b n (Hand from) can = go (hand_message (mail_at w (way w from n)))
    where
      go : (o : Option Message) → (after_turn w b n (hand_seen w n from o)).put ≡ b.put
      go None = refl
      go (Some m) = refl
  same-put b n (Look from) can = refl
  same-put b n (Post to) can = refl
  same-put b n (Close end) can = unclosed n end can
  same-put b n Idle can = refl
  same-put b n (OfRouter s act) can = go (router_in (node_at w n) s) refl can
    where
      go : (o : Option Router) → router_in (node_at w n) s ≡ o → may_act o act ≡ true → (after_turn w b n (router_seen w n s act o)).put ≡ b.put
      go None e may = refl
      go (Some r) e may =
          let is = passing n s act (Some r) e may in
          ap (λ o. (after_turn w b n (event_at (node_at w n) s o act (answer_of w r act))).put) e ∙
          router-put w b n (node_at w n) s r act (answer_of w r act) is

-- a message is taken into the hand, or posted
taken : {c : Rates} {marks : End → ℕ} (n : Node) (from : Option ℕ) → Passes c marks n (record n { hand = from })
unfolding node_stir node_keeps
taken n from = record { stir = omega arith; keeps = omega arith }

picked : (c : Rates) (marks : End → ℕ) (n : Node) (to : ℕ) (m : Message) → first_of (outbox n to) ≡ Some m →
    (node_stir (commit n (Post to) answers.Plain) + message_stir m ≤ node_stir n) ×
    (node_keeps c marks n ≤ node_keeps c marks (commit n (Post to) answers.Plain))
unfolding commit node_stir node_keeps first_of rest_of
picked c marks n to m e = (
  omega (
    arith,
    total_list-put_place (total_list message_stir) [] n.outboxes to (rest_of (outbox n to)) refl,
    first (outbox n to) e,
  ),
  omega arith,
)
  where
    first : (ms : List Message) → first_of ms ≡ Some m → total_list message_stir (rest_of ms) + message_stir m ≤ total_list message_stir ms
    first [] h = cc
    first (x ∷ xs) h = omega (arith, ap message_stir (same_Some x m h))

-- the caps leave room for so many items of each end that are still to come, in addition to those that weren't read
abbrev pub IsRoomy : Rates → (End → ℕ) → Books → Type 0
IsRoomy c marks b =
    (e : End) (n : ℕ) (x : Item) → read b (opposite_end e) ≤ n → slice_get (b.put e) n ≡ Some x → n + 1 + marks e ≤ c.cap e

-- no Gone is unread, nor a mark if the reader is closed
abbrev pub IsDull : Books → Type 0
IsDull b =
    (e : End) (n : ℕ) (x : Item) → read b (opposite_end e) ≤ n → slice_get (b.put e) n ≡ Some x →
    (is_gone_item x ≡ false) × (is_closed b (opposite_end e) ≡ true → is_mark x ≡ false)

discard-reads : (b : Books) (o : Option Router) (d : End) → read b d ≤ read (after_discard b o) d
unfolding after_discard
discard-reads b None d = omega arith
discard-reads b (Some r) d = go (same_end d r.end) refl
  where
    go : (t : Bool) → same_end d r.end ≡ t → length (b.got d) + b.gone d ≤ length (b.got d) + cond t (b.gone r.end + 1) (b.gone d)
    go false e = omega arith
    go true e = let same : b.gone d ≡ b.gone r.end = ap b.gone (same_end-tells d r.end e) in omega (arith, same)

retire-reads : (b : Books) (o : Option Router) (d : End) → read b d ≤ read (after_retire b o) d
unfolding after_retire
retire-reads b None d = omega arith
retire-reads b (Some r) d = omega arith

-- a turn reads, and no turn takes back what was read
read-grows : (w : World) (b : Books) (n : ℕ) (event : Happened) (d : End) → read b d ≤ read (after_turn w b n event) d
unfolding after_turn
read-grows w b n (events.Discard s m) d = discard-reads b (router_of w n s) d
read-grows w b n (events.DiscardLeave s m) d = discard-reads b (router_of w n s) d
read-grows w b n (events.Retire s m l) d = retire-reads b (router_of w n s) d
read-grows w b n other d = omega arith

module _ (c : Rates) (w : World) (b : Books) (g : Routes) (law : Lawful w b g) (rated : IsRated c b) (six : (pair : ℕ) → c.price pair ≡ 6)
    (marks : End → ℕ) (room : IsRoomy c marks b) (dull : IsDull b) (still : stir w ≡ 0) where
  put : (n s : ℕ) (r : Router) → n < w.count → router_in (node_at w n) s ≡ Some r → IsPut c marks (node_at w n) r
  unfolding router_at item_passes
  put n s r l here = record {
    no_gone = gone (current_item r.in_queue) refl;
    no_mark = λ sink. mark sink (current_item r.in_queue) refl;
    out = λ item e. room r.end r.out_queue.current item (come.out item e).0 (come.out item e).1;
    inner = λ item e. room (opposite_end r.end) r.in_queue.current item (come.inner item e).0 (come.inner item e).1;
  }
    where
      come : ComesOfPuts b r
      come = comes_of_puts w b law.records (record { node = n; serial = s }) r law.conserved l here

      told : (x : Item) → current_item r.in_queue ≡ Some x →
          (is_gone_item x ≡ false) × (is_closed b (opposite_end (opposite_end r.end)) ≡ true → is_mark x ≡ false)
      told x e = dull (opposite_end r.end) r.in_queue.current x (come.inner x e).0 (come.inner x e).1

      gone : (o : Option Item) → current_item r.in_queue ≡ o → has_gone_next r ≡ false
      gone None e = ap (item_passes is_gone_item) e
      gone (Some x) e = ap (item_passes is_gone_item) e ∙ (told x e).0

      mark : is_sink r ≡ true → (o : Option Item) → current_item r.in_queue ≡ o → item_passes is_mark (current_item r.in_queue) ≡ false
      mark sink None e = ap (item_passes is_mark) e
      mark sink (Some x) e = ap (item_passes is_mark) e ∙ (told x e).1 (ap (is_closed b) (opposite_end-twice r.end)
          ∙ sym (law.conserved.sink (record { node = n; serial = s }) r here (and_first (is_terminal r) r.closed sink))
          ∙ and_second (is_terminal r) r.closed sink)

  handed : (n from : ℕ) (x : Mail) → mail_at w (way w from n) ≡ x → PassesOn c marks w (after_hand w n from (hand_message x))
  unfolding after_hand hand_message messages_in mail_stir
  handed n from mails.Empty e = record { stir = omega arith; keeps = omega arith }
  handed n from (mails.Full m) e = record { stir = omega arith; keeps = omega arith }
  handed n from (mails.Hand m) e =
      let x : Node = deliver (node_at w n) from m (source_for w m) in
      let h : PassesOn c marks w (set_node w n x) = by-node c marks w n x
      (passes-delivered c marks (node_at w n) from m (source_for w m) (sym (ap mail_stir e) ∙ still-mail w (way w from n) still)
      (mailed-bare w b g law (none c w b g law rated six) (way w from n) m (ap messages_in e))) in
      with-mail c marks w (set_node w n x) (way w from n) 0 mails.Empty (omega (arith, h.stir)) (omega arith) h.keeps

  looked : (n from : ℕ) (x : Mail) → mail_at w (way w from n) ≡ x → PassesOn c marks w (after_look w n from (full_message x))
  unfolding after_look full_message commit mail_stir
  looked n from mails.Empty e = record { stir = omega arith; keeps = omega arith }
  looked n from (mails.Hand m) e = record { stir = omega arith; keeps = omega arith }
  looked n from (mails.Full m) e =
      let x : Node = record (node_at w n) { hand = Some from } in
      let h : PassesOn c marks w (set_node w n x) = by-node c marks w n x (taken (node_at w n) (Some from)) in
      with-mail c marks w (set_node w n x) (way w from n) 0 (mails.Hand m) (omega (arith, h.stir))
      (omega (arith, ap mail_stir (mail-set_node w n x (way w from n) ∙ e))) h.keeps

  full : (m : Message) (k : ℕ) → mail_stir (mails.Full m) ≤ k + message_stir m
  unfolding mail_stir
  full m k = omega arith

  posted : (n to : ℕ) (o : Option Message) → first_of (outbox (node_at w n) to) ≡ o → PassesOn c marks w (after_post w n to o)
  unfolding after_post commit
  posted n to None e = record { stir = omega arith; keeps = omega arith }
  posted n to (Some m) e =
      let x : Node = commit (node_at w n) (Post to) answers.Plain in
      let p = picked c marks (node_at w n) to m e in
      with-mail c marks w (set_node w n x) (way w n to) (message_stir m) (mails.Full m)
      (omega (arith, stir-set_node w n x, p.0)) (full m _) (omega (arith, keeps-set_node c marks w n x, p.1))

  routed : (n s : ℕ) (act : RouterAct) (o : Option Router) → n < w.count → router_in (node_at w n) s ≡ o → may_act o act ≡ true →
      PassesOn c marks w (after_router_act w n s act o)
  unfolding after_router_act may_act commit on_router
  routed n s act None l e may = cc
  routed n s act (Some r) l e may =
      let x : Node = node_at w n in
      let a : Answer = answer_of w r act in
      let is : is_passing act ≡ true = passing w still n s act (Some r) e may in
      let h : PassesOn c marks w (set_node w n (commit_router x s act a r)) =
      by-node c marks w n (commit_router x s act a r)
      (passes-acted c marks x s r e (bare c w b g law rated six n s r l e) (put n s r l e) act a may is) in
      subst (λ u. PassesOn c marks w (set_node u n (on_router x (router_in x s) (commit_router x s act a)))) (sym (untouched w r act is))
      (subst (λ o. PassesOn c marks w (set_node w n (on_router x o (commit_router x s act a)))) (sym e) h)

  -- any act
  pub passed : (n : ℕ) (act : Act) → n < w.count → can_take w n act ≡ true → PassesOn c marks w (after_act w n act)
  unfolding after_act can_take router_at post_of
  passed n (Hand from) l can = handed n from (mail_at w (way w from n)) refl
  passed n (Look from) l can = looked n from (mail_at w (way w from n)) refl
  passed n (Post to) l can = posted n to (first_of (outbox (node_at w n) to)) refl
  passed n (Close end) l can = unclosed w still n end can
  passed n (OfRouter s act) l can = routed n s act (router_in (node_at w n) s) l refl can
  passed n Idle l can = record { stir = omega arith; keeps = omega arith }

-- so do turns: none of them is an unlock, and proxies keep what the rank holds for them
pub record HavePassed (c : Rates) (marks : End → ℕ) (w v : World) (turns : List (ℕ × Act)) : Type 0 where
  pub unlocks : unlock_count turns ≡ 0
  pub retires : retire_count turns ≡ 0
  pub keeps : keeps c marks w ≤ keeps c marks v

pub turns-pass : StepKeepsLawful → TurnsKeepRates → (w v : World) (b d : Books) (g h : Routes) (c : Rates) (marks : End → ℕ)
    (turns : List (ℕ × Act)) → Lawful w b g → IsRated c b → ((pair : ℕ) → c.price pair ≡ 6) →
    IsRoomy c marks b → IsDull b → stir w ≡ 0 → AreTurns w b g turns v d h → HavePassed c marks w v turns
unfolding advance routes_after
turns-pass keep rates w v b d g h c marks [] law rated six room dull still run =
    record { unlocks = refl; retires = refl; keeps = omega (arith, ap (keeps c marks) run.0) }
turns-pass keep rates w v b d g h c marks (t ∷ ts) law rated six room dull still run =
    let step = stepped w t.0 t.1 run.0 in
    let one = passed c w b g law rated six marks room dull still t.0 t.1 run.0.node run.0.may in
    let same = same-put w still b t.0 t.1 run.0.may in
    let more = turns-pass keep rates (after_act w t.0 t.1) v (after_turn w b t.0 (turn_event w t.0 t.1)) d
    (routes_after_turn w g t.0 (turn_event w t.0 t.1)) h c marks ts
    (keep w (after_act w t.0 t.1) b g (Turn t.0) (replies.Turned (turn_event w t.0 t.1)) law step)
    (rates w (after_act w t.0 t.1) b g c t.0 (replies.Turned (turn_event w t.0 t.1)) law rated step) six
    (λ e n x l at. room e n x (reads e n l) (ap (λ put. slice_get (put e) n) (sym same) ∙ at))
    (λ e n x l at. let d = dull e n x (reads e n l) (ap (λ put. slice_get (put e) n) (sym same) ∙ at) in
    (d.0, λ k. d.1 (ap (λ put. has_mark (put (opposite_end e))) (sym same) ∙ k)))
    (omega (arith, one.stir, still)) run.1 in record {
      unlocks = omega (arith, more.unlocks, ap (λ u. worth 1 u) (unlocked w still t.0 t.1 run.0.may));
      retires = omega (arith, more.retires, ap (λ u. worth 1 u) (unretired w still t.0 t.1 run.0.may));
      keeps = omega (arith, one.keeps, more.keeps);
    }
  where
    reads : (e : End) (n : ℕ) → read (after_turn w b t.0 (turn_event w t.0 t.1)) (opposite_end e) ≤ n → read b (opposite_end e) ≤ n
    reads e n l = omega (arith, l, read-grows w b t.0 (turn_event w t.0 t.1) (opposite_end e))

-- what proxies keep and what stays with terminals are within the rank
pub keeps-within : (c : Rates) (marks : End → ℕ) (w : World) → ((pair : ℕ) → c.price pair ≡ 6) → stays c w + keeps c marks w ≤ rank c w
unfolding stays keeps rank node_worth node_keeps total
keeps-within c marks w six = omega (arith, both w.nodes)
  where
    routers : (es : List (ℕ × Router)) →
        total_of (λ s r. router_stays c r) es + total_of (λ s r. router_keeps c marks r) es ≤ total_of (λ s r. router_worth c r) es
    routers [] = omega arith
    routers (e ∷ es) = omega (arith, keeps-most c marks e.1 (six e.1.end.pair), routers es)

    one : (n : Node) → node_stays c n + node_keeps c marks n ≤ node_worth c n
    one n = omega (arith, routers (entries n.routers))

    both : (ns : List Node) → total_list (node_stays c) ns + total_list (node_keeps c marks) ns ≤ total_list (node_worth c) ns
    both [] = omega arith
    both (n ∷ ns) = omega (arith, one n, both ns)
