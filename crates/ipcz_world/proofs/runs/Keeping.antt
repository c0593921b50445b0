-- The case analysis: each step, whichever possible act a turn takes, keeps the invariant, with the books and the routes after it.
use Rattle.ipcz_world.proofs.frames.RolesTell.{links-in}
use Rattle.ipcz_world.proofs.acts.Retiring as retiring
use Rattle.ipcz_router.specs.ActTable.{can_begin, can_retire}
use Rattle.ipcz_world.proofs.frames.Touching.{either}
use Rattle.ipcz_world.proofs.Vocabulary.{End, Reply, Node, LinkId, Central, LinkEnd, Message, word_of, Router, primary_word, is_possible, RouterAct}
use Rattle.ipcz_world.proofs.Vocabulary.{Act, Hand, Close, Found, World, Key, node_at, word_at, mail_at, way, router_at, after_act, can_take}
use Rattle.ipcz_world.proofs.Vocabulary.{hand_message, answer_of, Books, Records, is_linked, side_end, Inv, unless, Refusal, next_number}
use Rattle.ipcz_world.proofs.Vocabulary.{is_lost_owner, has_gone_next, source_for, Profile, Printed, Wide, plan_of, is_rest, may_take, Answer, Look}
use Rattle.ipcz_world.proofs.Vocabulary.{Post, Idle, Happened, event_of, moved_ends, link_router, is_hand_of, Mail, may_act, turn_lacks_serials}
use Rattle.ipcz_world.proofs.Vocabulary.{turn_event, after_hand, after_turn, routes_of, pop_out, send_on, Routes, routes_after, routes_after_turn}
use Rattle.ipcz_world.proofs.Vocabulary.{Effect, refuse, open_on, open_step, serials_refusal, has_unclaimed_word}
use Rattle.ipcz_world.specs.Books.{after_retire}
use Rattle.ipcz_world.proofs.acts.Flags.{on-word}
use Rattle.ipcz_world.proofs.acts.Retire.{inv-retire}
use Rattle.ipcz_world.proofs.acts.Updating.{acted-retire}
use Rattle.ipcz_world.specs.Routes.{lose_spare}
use Rattle.ipcz_world.proofs.acts.Updating.{acted-discard_leave}
use Rattle.ipcz_world.proofs.acts.DroppingGone.{inv-discard_leave}
use Rattle.ipcz_world.proofs.acts.Routing.{routes-left, routes-left_terminal}
use Rattle.ipcz_world.proofs.acts.Seeing.{routes-leave, stays-lost}
use Rattle.ipcz_world.proofs.facts.RecordsAfter.{leave_records}
use Rattle.std.specs.Prelude.{◌≡◌, ◌<◌, ℕ, Bool, true, false, ◌&&◌, nat_lt, if◌then◌else◌, Option, Some, None, is_some, refl}
use Rattle.std.proofs.Common.{List, arith, ap, subst, ◌∙◌, sym, inl, inr}
use Rattle.std.proofs.lemmas.Bool.Decides.{nat_tests}
use Rattle.ipcz_base.specs.declared.message.Message.TheVariants as messages
use Rattle.ipcz_router.specs.declared.act.RouterAct.TheVariants as acts
use Rattle.ipcz_node.specs.declared.act.Act.TheVariants.{Router as OfRouter}
use Rattle.ipcz_node.specs.declared.happened.Happened.TheVariants as events
use Rattle.ipcz_node.specs.Events.{link_of, router_event}
use Rattle.ipcz_node.specs.Hands.{link_asked, side_asked, is_unfit}
use Rattle.ipcz_world.specs.declared.mail.Mail.TheVariants as mails
use Rattle.ipcz_world.specs.Books.{after_discard}
use Rattle.ipcz_world.proofs.facts.RecordsAfter.{claim_records, taken_records, accepted_records, told_records, ended_records, begin_records}
use Rattle.ipcz_world.proofs.facts.RecordsAfter.{made_records}
use Rattle.ipcz_world.proofs.facts.Updates.{CanAct}
use Rattle.ipcz_world.specs.Laws.{is_flush, KeepsLinks}
use Rattle.ipcz_world.proofs.acts.Marking.{acted-mark}
use Rattle.ipcz_world.proofs.acts.ActedWords.{acted-rest, acted-unlock, acted-lock, acted-claim, acted-dry}
use Rattle.ipcz_world.proofs.acts.Updating.{acted-leave, acted-finish_out, acted-finish_in, acted-wake}
use Rattle.ipcz_world.proofs.acts.Handling.{IsInHand, asked_at, found_asked, named, peer_is, accept_is, stop_is, will_stop_is, flush_is}
use Rattle.ipcz_world.proofs.acts.Handling.{dropped_is, peer_fits, under_way-hand}
use Rattle.ipcz_world.specs.declared.step.Step.TheVariants as steps
use Rattle.ipcz_world.specs.Routes.{add_link, add_peripherals}
use Rattle.ipcz_world.specs.Steps.{put_of}
use Rattle.ipcz_base.specs.declared.refusal.Refusal.TheVariants as refusals
use Rattle.ipcz_world.proofs.frames.Sealing.{sealed, closed}
use Rattle.ipcz_world.proofs.acts.Leaving.{inv-leave}
use Rattle.ipcz_world.proofs.acts.Finishing.{inv-finish_out, inv-finish_in}
use Rattle.ipcz_world.proofs.acts.Flags.{inv-rest, inv-dry}
use Rattle.ipcz_world.proofs.acts.WordActs.{inv-mark, inv-unlock, inv-lock}
use Rattle.ipcz_world.proofs.acts.Claiming.{inv-claim}
use Rattle.ipcz_world.proofs.acts.BeginAct.{inv-begin, begin-possible, acted-begin}
use Rattle.ipcz_world.proofs.acts.Waking.{inv-wake, inv-flush, inv-flush_lost}
use Rattle.ipcz_world.proofs.acts.HandingItems.{inv-item}
use Rattle.ipcz_world.proofs.acts.SendingActs.{sent_records, acted-sent_out, acted-sent_in, inv-sent_out, inv-sent_in, out_chosen}
use Rattle.ipcz_world.proofs.acts.SendingActs.{in_chosen}
use Rattle.ipcz_world.proofs.acts.BypassPeer.{inv-peer}
use Rattle.ipcz_world.proofs.acts.AcceptBypass.{inv-accept}
use Rattle.ipcz_world.proofs.acts.StopProxying.{inv-stop}
use Rattle.ipcz_world.proofs.acts.ProxyWillStop.{inv-will_stop}
use Rattle.ipcz_world.proofs.acts.Mailing.{step-look, step-post}
use Rattle.ipcz_world.proofs.acts.Puts.{inv-pending}
use Rattle.ipcz_world.proofs.acts.Gets.{inv-discard}
use Rattle.ipcz_world.proofs.frames.Telling.{IsPeer, peer_told}
use Rattle.ipcz_world.proofs.acts.CallSteps.{open-kept, put-kept, get-kept, close-kept}
use Rattle.ipcz_world.proofs.runs.Running.{Kept, KeptBy, StepsKeep}
use Rattle.ipcz_world.proofs.acts.Routing.{next_not_linked, routes-claim, routes-begin, routes-accept, routes-told, routes-ended}
use Rattle.ipcz_world.proofs.acts.Routing.{routes-taken, routes-made, routes-sent_out, routes-sent_in}
use Rattle.ipcz_world.proofs.acts.Seeing.{kind, router_kind, seen_event, taken_possible, hand_kind, is_send, routes-still}
use Rattle.ipcz_world.proofs.acts.Seeing.{routes-send_out, routes-send_in, routes-hand, routes-peer, stays-same, stays-link}
use Rattle.ipcz_world.proofs.acts.Seeing.{stays-peripherals}
use Rattle.std.proofs.lemmas.Bool.{and_parts}
use Rattle.ipcz_world.proofs.runs.NodeSteps.{hand-is}
use Rattle.ipcz_world.proofs.facts.Tests.{some_is}
use Rattle.ipcz_world.proofs.frames.Having.{HasAt, has_at}

-- an event of another kind leaves the books
books-other : (w : World) (b : Books) (n : ℕ) (event : Happened) → kind event ≡ 0 → after_turn w b n event ≡ b
unfolding kind after_turn
books-other w b n (events.Close e) h = cc
books-other w b n (events.Discard s m) h = cc
books-other w b n (events.DiscardLeave s m) h = cc
books-other w b n (events.Retire s m link) h = cc
books-other w b n any h = refl

event_discard : (n : Node) (s : ℕ) (r : Router) (a : Answer) → has_gone_next r ≡ false →
    router_event n s r acts.Discard a ≡ events.Discard s r.in_queue.current
unfolding router_event
event_discard n s r a other = rw other refl

event_discard_leave : (n : Node) (s : ℕ) (r : Router) (a : Answer) → has_gone_next r ≡ true →
    router_event n s r acts.Discard a ≡ events.DiscardLeave s r.in_queue.current
unfolding router_event
event_discard_leave n s r a next = rw next refl

books-discard_leave : (w : World) (b : Books) (n s m : ℕ) → after_turn w b n (events.DiscardLeave s m) ≡ after_discard b
    (router_at w (record { node = n; serial = s }))
unfolding after_turn
books-discard_leave w b n s m = refl

retire_word : (r : Router) → can_retire r ≡ true → is_some (primary_word r) ≡ true
retire_word r h = grind (arith, h)

begin_word : (r : Router) → can_begin r ≡ true → is_some (primary_word r) ≡ true
begin_word r h = grind (arith, h)

unlock_word : (r : Router) → is_possible r acts.Unlock ≡ true → is_some (primary_word r) ≡ true
unfolding is_possible
unlock_word r h = elim (either (can_begin r) (can_retire r) h) [ inl f ↦ begin_word r f | inr f ↦ retire_word r f ]

event_retire : (n : Node) (s : ℕ) (r : Router) (a : Answer) →
    router_event n s r acts.Retire a ≡ events.Retire s (next_number r) (link_of r.outward.primary)
unfolding router_event
event_retire n s r a = refl

books-retire : (w : World) (b : Books) (n s m : ℕ) (l : LinkId) → after_turn w b n (events.Retire s m l) ≡ after_retire b
    (router_at w (record { node = n; serial = s }))
unfolding after_turn
books-retire w b n s m l = refl

books-begin : (w : World) (b : Books) (n s : ℕ) (l : LinkId) → after_turn w b n (events.Begin s l) ≡ b
unfolding after_turn
books-begin w b n s l = refl

books-discard : (w : World) (b : Books) (n s m : ℕ) → after_turn w b n (events.Discard s m) ≡ after_discard b
    (router_at w (record { node = n; serial = s }))
unfolding after_turn
books-discard w b n s m = refl

-- a mailbox whose message is in hand
in_hand_is : (x : Mail) → is_some (hand_message x) ≡ true → (m : Message) × (x ≡ mails.Hand m)
unfolding hand_message
in_hand_is mails.Empty h = cc
in_hand_is (mails.Full m) h = cc
in_hand_is (mails.Hand m) h = (m, refl)

-- the number that a test of two begins with is below
below : (a b : ℕ) (c : Bool) → (nat_lt a b && c) ≡ true → a < b
below a b c h = grind (arith, h, nat_tests)

module _ (w : World) (b : Books) (g : Records) (law : Inv w b g) where
  -- records that tell the same routes
  kept_as : (v u : World) (c d : Books) (r : Routes) (h : Records) → v ≡ u → c ≡ d → r ≡ routes_of g → routes_of h ≡ routes_of g →
      Inv u d h → Kept g v c r
  kept_as v u c d r h e f s t i = record { records = h; inv = rw (e, f) i; routes = t ∙ sym s; stays = stays-same (routes_of g) r s }

  -- records that tell others
  kept_to : (v u : World) (c d : Books) (r q : Routes) (h : Records) → v ≡ u → c ≡ d → r ≡ q → routes_of h ≡ q →
      KeepsLinks (routes_of g) q → Inv u d h → Kept g v c r
  kept_to v u c d r q h e f s t l i = record {
    records = h;
    inv = rw (e, f) i;
    routes = t ∙ sym s;
    stays =
        subst (KeepsLinks (routes_of g)) (sym s) l;
  }

  -- the word of an act that needs one
  word_of_act : (r : Router) → is_some (primary_word r) ≡ true → (i : ℕ) × (primary_word r ≡ Some i)
  word_of_act r h = some_is (primary_word r) h

  primary_of : (r : Router) (i : ℕ) → primary_word r ≡ Some i → (e : LinkEnd) × (r.outward.primary ≡ Some e)
  unfolding word_of
  primary_of r i h = go r.outward.primary refl h
    where
      go : (o : Option LinkEnd) → r.outward.primary ≡ o → word_of o ≡ Some i → (e : LinkEnd) × (r.outward.primary ≡ Some e)
      go None e f = cc
      go (Some x) e f = (x, e)

  router_kept : (n s : ℕ) (act : RouterAct) (r : Router) → router_at w (record { node = n; serial = s }) ≡ Some r → may_take r act ≡ true →
      turn_lacks_serials w n (OfRouter s act) ≡ false → Kept g (after_act w n (OfRouter s act))
      (after_turn w b n (turn_event w n (OfRouter s act))) (routes_after_turn w (routes_of g) n (turn_event w n (OfRouter s act)))
  unfolding is_possible can_take may_act is_rest
  router_kept n s act r here may room = go act refl
    where
      k : Key
      k = record { node = n; serial = s }

      can : (a : RouterAct) → act ≡ a → is_rest a ≡ false → is_possible r a ≡ true
      can a e f = taken_possible r a (subst (λ x. may_take r x ≡ true) e may) f

      able : (a : RouterAct) → act ≡ a → is_rest a ≡ false → CanAct w k r a
      able a e f = record { here = here; possible = can a e f }

      room_for : (a : RouterAct) → act ≡ a → turn_lacks_serials w n (OfRouter s a) ≡ false
      room_for a e = subst (λ x. turn_lacks_serials w n (OfRouter s x) ≡ false) e room

      quiet : (a : RouterAct) → kind (router_event (node_at w n) s r a (answer_of w r a)) ≡ 0 →
          after_turn w b n (turn_event w n (OfRouter s a)) ≡ b
      quiet a h = books-other w b n (turn_event w n (OfRouter s a)) (ap kind (seen_event w n s a r here) ∙ h)

      calm : (a : RouterAct) → (a ≡ acts.Discard → ⊥) → (a ≡ acts.Begin → ⊥) → (a ≡ acts.Retire → ⊥) → after_turn w b n (turn_event w n (OfRouter s a)) ≡ b
      calm a p q u = elim (router_kind (node_at w n) s r a (answer_of w r a)) [
        | inl e ↦ quiet a e
        | inr (inl e) ↦ absurd (p e.0)
        | inr (inr (inl e)) ↦ absurd (q e.0)
        | inr (inr (inr (inl e))) ↦ absurd (p e.0)
        | inr (inr (inr (inr e))) ↦ absurd (u e.0)
      ]

      quietly : (a : RouterAct) → is_send a ≡ false → routes_after_turn w (routes_of g) n (turn_event w n (OfRouter s a)) ≡ routes_of g
      quietly a h = routes-still w (routes_of g) n s r a here h

      may_send : (a : RouterAct) → act ≡ a → can_take w n (OfRouter s a) ≡ true
      may_send a e = rw here (subst (λ x. may_take r x ≡ true) e may)

      begun_books : after_turn w b n (turn_event w n (OfRouter s acts.Begin)) ≡ b
      begun_books = elim (router_kind (node_at w n) s r acts.Begin (answer_of w r acts.Begin)) [
        | inl e ↦ quiet acts.Begin e
        | inr (inl e) ↦ cc
        | inr (inr (inl e)) ↦ ap (after_turn w b n) (seen_event w n s acts.Begin r here ∙ e.1) ∙
            begin_leaves (link_of r.outward.primary)
        | inr (inr (inr (inl e))) ↦ cc
        | inr (inr (inr (inr e))) ↦ cc
      ]
        where
          begin_leaves : (l : LinkId) → after_turn w b n (events.Begin s l) ≡ b
          begin_leaves l = books-begin w b n s l

      discarded : has_gone_next r ≡ false → after_turn w b n (turn_event w n (OfRouter s acts.Discard)) ≡ after_discard b (router_at w k)
      discarded other = ap (after_turn w b n) (seen_event w n s acts.Discard r here ∙ event_discard (node_at w n) s r _ other) ∙
          books-discard w b n s r.in_queue.current

      dropped : has_gone_next r ≡ true → after_turn w b n (turn_event w n (OfRouter s acts.Discard)) ≡ after_discard b (router_at w k)
      dropped next = ap (after_turn w b n) (seen_event w n s acts.Discard r here ∙ event_discard_leave (node_at w n) s r _ next) ∙
          books-discard_leave w b n s r.in_queue.current

      retired : after_turn w b n (turn_event w n (OfRouter s acts.Retire)) ≡ after_retire b (router_at w k)
      retired = ap (after_turn w b n) (seen_event w n s acts.Retire r here ∙ event_retire (node_at w n) s r _) ∙
          books-retire w b n s (next_number r) (link_of r.outward.primary)

      go : (a : RouterAct) → act ≡ a → Kept g (after_act w n (OfRouter s a)) (after_turn w b n (turn_event w n (OfRouter s a)))
          (routes_after_turn w (routes_of g) n (turn_event w n (OfRouter s a)))
      go acts.SendOut e =
          let c = out_chosen w k (may_send acts.SendOut e) in
          kept_to _ _ _ b _ (add_peripherals (routes_of g) n (node_at w n).next_peripheral (moved_ends (node_at w n) c.1 c.2))
          (sent_records w g k (pop_out c.0) c.1 c.2)
          (acted-sent_out w k c.0 c.1 c.2 c.3 c.4 c.5) (calm acts.SendOut (λ x. cc) (λ x. cc) (λ x. cc))
          (routes-send_out w (routes_of g) n s c.0 c.1 c.2 c.3 c.4 c.5) (routes-sent_out w b g k c.0 c.1 c.2 law c.3 c.4 c.5)
          (stays-peripherals (routes_of g) n (node_at w n).next_peripheral (moved_ends (node_at w n) c.1 c.2))
          (inv-sent_out w b g k c.0 c.1 c.2 law c.3 c.4 c.5)
      go acts.SendIn e =
          let c = in_chosen w k (may_send acts.SendIn e) in
          kept_to _ _ _ b _ (add_peripherals (routes_of g) n (node_at w n).next_peripheral (moved_ends (node_at w n) c.1 c.2))
          (sent_records w g k (send_on c.0) c.1 c.2)
          (acted-sent_in w k c.0 c.1 c.2 c.3 c.4 c.5) (calm acts.SendIn (λ x. cc) (λ x. cc) (λ x. cc))
          (routes-send_in w (routes_of g) n s c.0 c.1 c.2 c.3 c.4 c.5) (routes-sent_in w b g k c.0 c.1 c.2 law c.3 c.4 c.5)
          (stays-peripherals (routes_of g) n (node_at w n).next_peripheral (moved_ends (node_at w n) c.1 c.2))
          (inv-sent_in w b g k c.0 c.1 c.2 law c.3 c.4 c.5)
      go acts.Discard e = drop (has_gone_next r) refl
        where
          drop : (c : Bool) → has_gone_next r ≡ c → Kept g (after_act w n (OfRouter s acts.Discard))
              (after_turn w b n (turn_event w n (OfRouter s acts.Discard)))
              (routes_after_turn w (routes_of g) n (turn_event w n (OfRouter s acts.Discard)))
          drop false f = kept_as _ _ _ _ _ g refl (discarded f) (quietly acts.Discard refl) refl
              (inv-discard w b g n s r law here (can acts.Discard e refl) f)
          drop true f = kept_as _ _ _ _ _ (leave_records g r) (acted-discard_leave w n s r here f) (dropped f) (quietly acts.Discard refl)
              (routes-left_terminal w b g k r law here (grind (arith, can acts.Discard e refl)))
              (inv-discard_leave w b g k r law here (can acts.Discard e refl) f)
      go acts.FinishOut e = kept_as _ _ _ b _ g (acted-finish_out w n s r here) (calm acts.FinishOut (λ x. cc) (λ x. cc) (λ x. cc))
          (quietly acts.FinishOut refl) refl (inv-finish_out w b g k r law (able acts.FinishOut e refl))
      go acts.FinishIn e = kept_as _ _ _ b _ g (acted-finish_in w n s r here) (calm acts.FinishIn (λ x. cc) (λ x. cc) (λ x. cc))
          (quietly acts.FinishIn refl) refl (inv-finish_in w b g k r law (able acts.FinishIn e refl))
      go acts.Leave e = kept_to _ _ _ b _ (lose_spare (routes_of g) r.spare) (leave_records g r) (acted-leave w n s r here)
          (calm acts.Leave (λ x. cc) (λ x. cc) (λ x. cc)) (routes-leave w (routes_of g) n s r here) (routes-left w b g k r law here)
          (stays-lost (routes_of g) r.spare) (inv-leave w b g k r law (able acts.Leave e refl))
      go acts.Mark e =
          let i = word_of_act r (grind (arith, can acts.Mark e refl)) in
          kept_as _ _ _ b _ g (acted-mark w n s i.0 r here i.1) (calm acts.Mark (λ x. cc) (λ x. cc) (λ x. cc)) (quietly acts.Mark refl) refl
          (inv-mark w b g k r i.0 law (record { here = here; possible = can acts.Mark e refl; word = i.1 }))
      go acts.Wake e =
          let i = word_of_act r (grind (arith, can acts.Wake e refl)) in
          let l = primary_of r i.0 i.1 in
          kept_as _ _ _ b _ g (acted-wake w n s i.0 r l.0 here i.1 l.1) (calm acts.Wake (λ x. cc) (λ x. cc) (λ x. cc)) (quietly acts.Wake refl) refl
          (inv-wake w b g k r i.0 l.0 law (record { here = here; possible = can acts.Wake e refl; word = i.1 }) l.1)
      go acts.Claim e = claim (has_unclaimed_word w) refl
        where
          claim : (c : Bool) → has_unclaimed_word w ≡ c → Kept g (after_act w n (OfRouter s acts.Claim))
              (after_turn w b n (turn_event w n (OfRouter s acts.Claim)))
              (routes_after_turn w (routes_of g) n (turn_event w n (OfRouter s acts.Claim)))
          claim true q = let l : w.claimed < w.size = grind (arith, q, nat_tests) in
              kept_as _ _ _ b _ (claim_records g k w.claimed) (acted-claim w n s r here q) (calm acts.Claim (λ x. cc) (λ x. cc) (λ x. cc))
              (quietly acts.Claim refl) (routes-claim w b g k law) (inv-claim w b g k r law (able acts.Claim e refl) l)
          claim false q = kept_as _ _ _ b _ g (acted-dry w n s r here q) (calm acts.Claim (λ x. cc) (λ x. cc) (λ x. cc))
              (quietly acts.Claim refl) refl (inv-dry w b g k r law here)
      go acts.Lock e =
          let i = word_of_act r (grind (arith, can acts.Lock e refl)) in
          kept_as _ _ _ b _ g (acted-lock w n s i.0 r (plan_of (word_at w i.0) r.end.side) here i.1 refl)
          (calm acts.Lock (λ x. cc) (λ x. cc) (λ x. cc)) (quietly acts.Lock refl) refl
          (inv-lock w b g k r i.0 (plan_of (word_at w i.0) r.end.side) law
          (record { here = here; possible = can acts.Lock e refl; word = i.1 }) refl)
      go acts.Begin e =
          let c = begin-possible w b g k r law (able acts.Begin e refl) in
          kept_as _ _ _ b _ (begin_records g k c.old c.fresh c.inner) (acted-begin w n s r c.inner c.into c.out c.old c.fresh c.can)
          begun_books (quietly acts.Begin refl)
          (routes-begin g k c.old c.fresh c.inner (law.spares.spare k r c.fresh here c.can.spare))
          (inv-begin w b g k r c.inner c.into c.out c.old c.fresh law c.can)
      go acts.Retire e =
          let i = word_of_act r (retire_word r (can acts.Retire e refl)) in
          let on = on-word w b g k r i.0 law here i.1 in
          kept_as _ _ _ _ _ (leave_records g r) (acted-retire w n s r on.end here on.primary) retired (quietly acts.Retire refl)
          (routes-left_terminal w b g k r law here (retiring.terminal w b g k r i.0 law here on (can acts.Retire e refl)))
          (inv-retire w b g k r i.0 law here on (can acts.Retire e refl))
      go acts.Unlock e =
          let i = word_of_act r (unlock_word r (can acts.Unlock e refl)) in
          kept_as _ _ _ b _ g (acted-unlock w n s i.0 r here i.1) (calm acts.Unlock (λ x. cc) (λ x. cc) (λ x. cc)) (quietly acts.Unlock refl) refl
          (inv-unlock w b g k r i.0 law (record { here = here; possible = can acts.Unlock e refl; word = i.1 }))
      go acts.Rest e = kept_as _ _ _ b _ g (acted-rest w n s r here) (calm acts.Rest (λ x. cc) (λ x. cc) (λ x. cc)) (quietly acts.Rest refl) refl
          (inv-rest w b g k r law here)

  -- a message in hand
  abbrev Taken : ℕ → ℕ → Message → Type 0
  Taken n from m = Kept g (after_hand w n from (Some m)) b (routes_after_turn w (routes_of g) n (turn_event w n (Hand from)))

  hand_kept : (n from : ℕ) (m : Message) → IsInHand w n from m → Taken n from m
  unfolding is_lost_owner is_flush link_asked side_asked is_linked side_end after_act hand_message
  hand_kept n from (messages.Item link side number item moves) is =
      kept_as _ _ b b _ (made_records g n (node_at w n).next_router moves) refl refl
      (routes-hand w (routes_of g) n from (messages.Item link side number item moves) is.mail refl)
      (routes-made g n (node_at w n).next_router moves)
      (subst (λ v. Inv v b (made_records g n (node_at w n).next_router moves)) (ap (λ x. after_hand w n from (hand_message x)) is.mail)
      (inv-item w b g from n link side number item moves law is.node is.hand is.mail))
  hand_kept n from (messages.BypassPeer link side o target fresh) is =
      let m = messages.BypassPeer link side o target fresh in
      let a = asked_at w n from m link side is (named w b g law n from m is refl) in
      let k : Key = record { node = n; serial = a.found.serial } in
      let at : IsPeer g from n o link side target fresh = peer_told w g from n 0 o link side target fresh law.controls
      (under_way-hand w n from m is) in
      let fits = peer_fits w b g law n from o link side target fresh is a.found a.is_found a.can a.has in
      let unfit : is_unfit (node_at w n) from m (source_for w m) ≡ false = rw (fits, a.is_found) refl in
      let free : is_linked (g.owner fresh) ≡ false = ap is_linked (ap g.owner at.onto ∙ (law.bypasses o).fresh at.stage) in
      let unlost : is_lost_owner (g.owner fresh) ≡ false = ap is_lost_owner (ap g.owner at.onto ∙ (law.bypasses o).fresh at.stage) in
      let own : HasAt w g k a.found.router link side = has_at w g k a.found.router link side (links-in law) a.can.here a.has in
      let pair : a.found.router.end.pair ≡ (g.central o).pair = ap (λ e. e.pair) own.end ∙ ap (λ l. (side_end g l side).pair) at.on_link ∙
      (law.bypasses o).pair (grind (arith, at.stage, nat_tests)) in
      kept_to _ _ b b _ (add_link (routes_of g) fresh (g.central o).pair) (taken_records g k a.found.router o fresh target)
      (peer_is w b g law n from o link side target fresh is a) refl
      (routes-peer w (routes_of g) n from link side o target fresh is.mail is.hand unfit)
      (routes-taken g k a.found.router o fresh target pair unlost) (stays-link (routes_of g) fresh (g.central o).pair free)
      (inv-peer w b g from k a.found.router o link side target fresh (sealed law) (closed (record { hand = a.can; has = a.has })))
  hand_kept n from (messages.AcceptBypass o side fresh length) is =
      let m = messages.AcceptBypass o side fresh length in
      let a = asked_at w n from m (Central o) side is (named w b g law n from m is refl) in
      let k : Key = record { node = n; serial = a.found.serial } in
      let t = accept_is w b g law n from o side fresh length is a in
      kept_as _ _ b b _ (accepted_records g k a.found.router o side fresh) t.2 refl (routes-hand w (routes_of g) n from m is.mail refl)
      (routes-accept g k a.found.router o side fresh)
      (inv-accept w b g from k a.found.router t.0 o side fresh length (sealed law)
      (closed (record { hand = a.can; has = a.has; on = t.1 })))
  hand_kept n from (messages.StopProxying side o in_length out_length) is =
      let m = messages.StopProxying side o in_length out_length in
      let a = asked_at w n from m (Central o) side is (named w b g law n from m is refl) in
      let t = stop_is w b g law n from o side in_length out_length is a in
      kept_as _ _ b b _ (told_records g o) t.2 refl (routes-hand w (routes_of g) n from m is.mail refl) (routes-told g o)
      (inv-stop w b g from (record { node = n; serial = a.found.serial }) a.found.router t.0 o side in_length out_length (sealed law)
      (closed (record { hand = a.can; has = a.has; on = t.1 })))
  hand_kept n from (messages.ProxyWillStop link side in_length) is =
      let m = messages.ProxyWillStop link side in_length in
      let a = asked_at w n from m link side is (named w b g law n from m is refl) in
      let t = will_stop_is w b g law n from link side in_length is a in
      kept_as _ _ b b _ (ended_records g (Some t.0)) t.2 refl (routes-hand w (routes_of g) n from m is.mail refl)
      (routes-ended g (Some t.0))
      (inv-will_stop w b g from (record { node = n; serial = a.found.serial }) a.found.router t.0 link side in_length (sealed law)
      (closed (record { hand = a.can; has = a.has; by = t.1 })))
  hand_kept n from (messages.Flush link side) is = go (link_router (node_at w n) link side) refl
    where
      go : (o : Option Found) → link_router (node_at w n) link side ≡ o → Taken n from (messages.Flush link side)
      go None e = kept_as _ _ b b _ g (dropped_is w b g law n from link side is e) refl
          (routes-hand w (routes_of g) n from (messages.Flush link side) is.mail refl) refl
          (inv-flush_lost w b g from n link side law is.node is.mail is.hand)
      go (Some f) e =
          let a = found_asked w n from (messages.Flush link side) link side f is e in
          kept_as _ _ b b _ g (flush_is w b g law n from link side is a) refl
          (routes-hand w (routes_of g) n from (messages.Flush link side) is.mail refl) refl
          (inv-flush w b g from (record { node = n; serial = a.found.serial }) a.found.router link side law a.can)

  -- any act that a turn may take
  pub act_kept : (n : ℕ) (act : Act) → n < w.count → can_take w n act ≡ true → turn_lacks_serials w n act ≡ false →
      Kept g (after_act w n act) (after_turn w b n (turn_event w n act)) (routes_after_turn w (routes_of g) n (turn_event w n act))
  unfolding can_take may_act after_act turn_event event_of after_turn routes_after_turn hand_message
  act_kept n (Hand from) l can room =
      let t = and_parts (is_hand_of (node_at w n).hand from) (is_some (hand_message (mail_at w (way w from n)))) can in
      let m = in_hand_is (mail_at w (way w from n)) t.1 in
      let hand : (node_at w n).hand ≡ Some from = hand-is (node_at w n).hand from t.0 in
      let is : IsInHand w n from m.0 = record { node = l; sender = law.counts.hand_from n from l hand; mail = m.1; hand = hand } in
      let k = hand_kept n from m.0 is in
      record {
        records = k.records;
        inv = subst (λ c. Inv (after_act w n (Hand from)) c k.records)
            (sym (books-other w b n _ (hand_kind w n from (hand_message (mail_at w (way w from n))))))
            (subst (λ x. Inv (after_hand w n from (hand_message x)) b k.records) (sym m.1) k.inv);
        routes = k.routes;
        stays = k.stays;
      }
  act_kept n (Look from) l can room = record {
    records = g;
    inv = step-look w b g n from law l (below from w.count _ can) can;
    routes =
        refl;
    stays = stays-same (routes_of g) (routes_of g) refl;
  }
  act_kept n (Post to) l can room = record {
    records = g;
    inv = step-post w b g n to law l (below to w.count _ can) can;
    routes = refl;
    stays = stays-same (routes_of g) (routes_of g) refl;
  }
  act_kept n (Close e) l can room = record {
    records = g;
    inv = inv-pending w b g n e law can;
    routes = refl;
    stays =
        stays-same (routes_of g) (routes_of g) refl;
  }
  act_kept n (OfRouter s a) l can room = go (router_at w (record { node = n; serial = s })) refl can
    where
      go : (o : Option Router) → router_at w (record { node = n; serial = s }) ≡ o → may_act o a ≡ true →
          Kept g (after_act w n (OfRouter s a)) (after_turn w b n (turn_event w n (OfRouter s a)))
          (routes_after_turn w (routes_of g) n (turn_event w n (OfRouter s a)))
      go None e h = cc
      go (Some r) e h = router_kept n s a r e h room
  act_kept n Idle l can room = record { records = g; inv = law; routes = refl; stays = stays-same (routes_of g) (routes_of g) refl }

  -- an effect of an open after which links stay
  abbrev Stays : ℕ → Effect → Type 0
  Stays n done = KeepsLinks (routes_of g) (routes_after w (routes_of g) (steps.Open n) done.reply)

  -- the links stay at an open
  stays-open : (n : ℕ) → KeepsLinks (routes_of g) (routes_after w (routes_of g) (steps.Open n) (open_step w n).reply)
  unfolding open_on unless routes_after is_linked
  stays-open n = chosen (nat_lt n w.count) (open_on w n (node_at w n).opening) (refuse w refusals.Stranger) (go (node_at w n).opening refl)
      same
    where
      same : KeepsLinks (routes_of g) (routes_of g)
      same = stays-same (routes_of g) (routes_of g) refl

      chosen : (c : Bool) (done other : Effect) → Stays n done → Stays n other → Stays n (if c then done else other)
      chosen true done other p q = p
      chosen false done other p q = q

      refused : (o : Option Refusal) (done : Effect) → Stays n done → Stays n (unless w o done)
      refused None done h = h
      refused (Some why) done h = same

      go : (o : Option ℕ) → (node_at w n).opening ≡ o → Stays n (open_on w n o)
      go (Some i) e = refused (serials_refusal (node_at w n)) _ (stays-link (routes_of g) i i (ap is_linked (law.spares.opening n i e)))
      go None e = chosen (has_unclaimed_word w) _ (refuse w refusals.NoWord)
          (refused (serials_refusal (node_at w n)) _ (stays-link (routes_of g) w.claimed w.claimed (next_not_linked w b g law))) same

  open_kept : (n : ℕ) → KeptBy w b g (steps.Open n) (open_step w n)
  open_kept n = let f = open-kept w b g law n in record { records = _; inv = f.inv; routes = f.routes; stays = stays-open n }

  -- a put makes no route
  stays-put : (profile : Profile) (n : ℕ) (at : End) (bytes : List ℕ) (ends : List End) (reply : Reply) →
      KeepsLinks (routes_of g) (routes_after w (routes_of g) (put_of profile n at bytes ends) reply)
  unfolding routes_after
  stays-put Printed n at bytes ends reply = stays-same (routes_of g) (routes_of g) refl
  stays-put Wide n at bytes ends reply = stays-same (routes_of g) (routes_of g) refl

-- so each step keeps it
pub steps_keep : StepsKeep
unfolding routes_after
steps_keep = record {
  opens = λ w b g n law. open_kept w b g law n;
  puts = λ profile w b g n at bytes ends law. let f = put-kept w b g law profile n at bytes ends in
      record { records = _; inv = f.inv; routes = f.routes; stays = stays-put w b g law profile n at bytes ends _ };
  gets = λ w b g n at law. let f = get-kept w b g law n at in record
      { records = _; inv = f.inv; routes = f.routes; stays = stays-same (routes_of g) (routes_of g) refl };
  closes = λ w b g n at law. let f = close-kept w b g law n at in
      record { records = _; inv = f.inv; routes = f.routes; stays = stays-same (routes_of g) (routes_of g) refl };
  takes = λ w b g n act law l can room. act_kept w b g law n act l can room;
}
