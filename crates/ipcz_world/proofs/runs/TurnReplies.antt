-- What turns answer: each answer is one that the machine over the books alone allows, and a bypass begins only under the lock.
use Rattle.ipcz_world.proofs.frames.RolesTell.{links-in}
use Rattle.std.specs.Prelude.{◌≡◌, ◌⊎◌, ◌<◌, ℕ, true, Option, Some, None, length, refl}
use Rattle.std.proofs.Common.{arith, ap, subst, ◌∙◌, sym, inl, inr}
use Rattle.std.proofs.lemmas.Bool.Decides.{nat_tests}
use Rattle.std.proofs.lemmas.Option.{same_Some, slice_get_within}
use Rattle.ipcz_world.proofs.Vocabulary.{LinkId, Central, LinkEnd, Item, Refusal, opposite_end, word_of, has, current_item, Router, is_terminal}
use Rattle.ipcz_world.proofs.Vocabulary.{is_possible, RouterAct, Act, Hand, Close, Reply, World, Key, way, mail_at, node_at, word_at, router_at}
use Rattle.ipcz_world.proofs.Vocabulary.{can_take, hand_message, answer_of, Books, read, Records, side_end, has_primary, IsRecorded, Inv, may_take}
use Rattle.ipcz_world.proofs.Vocabulary.{is_rest, Look, Post, Idle, Happened, event_of, Step, turn_event, router_seen, may_act, turn_step, StepAny}
use Rattle.ipcz_world.proofs.Vocabulary.{after_turn, advance, Gone, has_gone_next, next_number}
use Rattle.ipcz_base.specs.declared.refusal.Refusal.TheVariants as refusals
use Rattle.ipcz_router.specs.declared.act.RouterAct.TheVariants as acts
use Rattle.ipcz_node.specs.declared.act.Act.TheVariants.{Router as OfRouter}
use Rattle.ipcz_node.specs.declared.happened.Happened.TheVariants as events
use Rattle.ipcz_node.specs.Events.{hand_event, link_of}
use Rattle.ipcz_world.specs.declared.step.Step.TheVariants as steps
use Rattle.ipcz_world.specs.declared.step.Reply.TheVariants as replies
use Rattle.ipcz_world.specs.Turns.{hand_seen}
use Rattle.ipcz_world.specs.Books.{after_discard, after_retire}
use Rattle.ipcz_router.specs.Router.{primary_word}
use Rattle.ipcz_world.proofs.acts.Flags.{OnWord, on-word}
use Rattle.ipcz_world.proofs.acts.Retiring as retiring
use Rattle.ipcz_world.proofs.facts.Drained.{gone_next-tells}
use Rattle.ipcz_world.proofs.facts.LinkTests.{opposite_end-twice, has_link-is}
use Rattle.ipcz_world.proofs.facts.Tests.{some_is}
use Rattle.std.specs.Prelude.{slice_get}
use Rattle.ipcz_world.specs.Plain.{Discards, Drops, Retires, PlainTurn, Plain}
use Rattle.ipcz_world.specs.WorldLaws.{BeginsUnderLock, BeginsLocked}
use Rattle.ipcz_world.proofs.lawful.LinkLaws.{IsOn, on_tells, holder_is}
use Rattle.ipcz_world.proofs.lawful.EachOnce.{in_queue-put}
use Rattle.ipcz_world.proofs.runs.Running.{turn_reply}
use Rattle.ipcz_world.proofs.acts.Seeing.{kind, router_kind, seen_event, taken_possible, hand_kind}

-- an event of another kind leaves the books, and is allowed
plain-other : (w : World) (b : Books) (n : ℕ) (event : Happened) → kind event ≡ 0 → PlainTurn b event (after_turn w b n event)
unfolding kind after_turn
plain-other w b n (events.Close e) h = cc
plain-other w b n (events.Discard s m) h = cc
plain-other w b n (events.DiscardLeave s m) h = cc
plain-other w b n (events.Retire s m link) h = cc
plain-other w b n any h = refl

module _ (w : World) (b : Books) (g : Records) (law : Inv w b g) where
  discards : (n s : ℕ) (r : Router) → router_at w (record { node = n; serial = s }) ≡ Some r → is_possible r acts.Discard ≡ true →
      Discards b r.in_queue.current (after_turn w b n (events.Discard s r.in_queue.current))
  unfolding is_possible after_turn after_discard
  discards n s r here can = go (current_item r.in_queue) refl
    where
      k : Key
      k = record { node = n; serial = s }

      terminal : is_terminal r ≡ true
      terminal = grind (arith, can)

      closed : r.closed ≡ true
      closed = grind (arith, can)

      cur : r.in_queue.current ≡ read b r.end
      cur = law.conserved.current k r here terminal

      go : (o : Option Item) → current_item r.in_queue ≡ o → Discards b r.in_queue.current
          (after_turn w b n (events.Discard s r.in_queue.current))
      go None e = absurd (grind (arith, can, e))
      go (Some x) e =
          let p = in_queue-put w b g k r r.in_queue.current x law here e in
          record {
            end = r.end;
            closed = sym (law.conserved.sink k r here terminal) ∙ closed;
            next = cur;
            put = let l : r.in_queue.current < length (b.put (opposite_end r.end)) = slice_get_within _ _ _ p.1 in omega (arith, l, cur);
            books = rw here refl;
          }

  -- a sink drops Gone
  drops : (n s : ℕ) (r : Router) → router_at w (record { node = n; serial = s }) ≡ Some r → is_possible r acts.Discard ≡ true →
      has_gone_next r ≡ true → Drops b r.in_queue.current (after_turn w b n (events.DiscardLeave s r.in_queue.current))
  unfolding is_possible after_turn after_discard
  drops n s r here can gone = record {
    discards = record {
      end = r.end;
      closed = sym (law.conserved.sink k r here terminal) ∙ grind (arith, can);
      next = cur;
      put = let l : r.in_queue.current < length (b.put (opposite_end r.end)) = slice_get_within _ _ _ put in omega (arith, l, cur);
      books = rw here refl;
    };
    gone = ap (slice_get (b.put (opposite_end r.end))) (sym cur) ∙ put;
  }
    where
      k : Key
      k = record { node = n; serial = s }

      terminal : is_terminal r ≡ true
      terminal = grind (arith, can)

      cur : r.in_queue.current ≡ read b r.end
      cur = law.conserved.current k r here terminal

      put : slice_get (b.put (opposite_end r.end)) r.in_queue.current ≡ Some Gone
      put = (in_queue-put w b g k r r.in_queue.current Gone law here (gone_next-tells r gone)).1

  -- a sink retires
  retires : (n s : ℕ) (r : Router) (l : LinkId) → router_at w (record { node = n; serial = s }) ≡ Some r →
      is_possible r acts.Retire ≡ true → Retires b (next_number r) (after_turn w b n (events.Retire s (next_number r) l))
  unfolding is_possible after_turn after_retire
  retires n s r l here can = record {
    end = r.end;
    closed = sym (law.conserved.sink k r here terminal) ∙ grind (arith, can);
    peer_closed = law.gones.dropped_closed k r here (grind (arith, can));
    neither = retiring.unretired w b g k r word.0 law here on can;
    all_read = omega (
      arith,
      law.conserved.current k r here terminal,
      retiring.all w b g k r word.0 law here on can,
      law.conserved.read_put (opposite_end r.end),
      ap (read b) (opposite_end-twice r.end),
    );
    next = law.conserved.reach k r here terminal;
    books = rw here refl;
  }
    where
      k : Key
      k = record { node = n; serial = s }

      terminal : is_terminal r ≡ true
      terminal = grind (arith, can)

      word : (i : ℕ) × (primary_word r ≡ Some i)
      word = some_is (primary_word r) (grind (arith, can))

      on : OnWord w g k r word.0
      on = on-word w b g k r word.0 law here word.1

  begins : (n s : ℕ) (l : LinkId) → PlainTurn b (events.Begin s l) (after_turn w b n (events.Begin s l))
  unfolding after_turn
  begins n s l = refl

  of_router : (n s : ℕ) (a : RouterAct) (r : Router) → router_at w (record { node = n; serial = s }) ≡ Some r → may_take r a ≡ true →
      PlainTurn b (turn_event w n (OfRouter s a)) (after_turn w b n (turn_event w n (OfRouter s a)))
  unfolding is_rest
  of_router n s a r here may = elim (router_kind (node_at w n) s r a (answer_of w r a)) [
    | inl e ↦ plain-other w b n (turn_event w n (OfRouter s a)) (ap kind (seen_event w n s a r here) ∙ e)
    | inr (inl e) ↦ subst (λ v. PlainTurn b v (after_turn w b n v)) (sym (seen_event w n s a r here ∙ e.2))
        (discards n s r here (subst (λ x. is_possible r x ≡ true) e.0 (taken_possible r a may (ap is_rest e.0))))
    | inr (inr (inl e)) ↦ subst (λ v. PlainTurn b v (after_turn w b n v)) (sym (seen_event w n s a r here ∙ e.1))
        (begins n s (link_of r.outward.primary))
    | inr (inr (inr (inl e))) ↦ subst (λ v. PlainTurn b v (after_turn w b n v)) (sym (seen_event w n s a r here ∙ e.2))
        (drops n s r here (subst (λ x. is_possible r x ≡ true) e.0 (taken_possible r a may (ap is_rest e.0))) e.1)
    | inr (inr (inr (inr e))) ↦ subst (λ v. PlainTurn b v (after_turn w b n v)) (sym (seen_event w n s a r here ∙ e.1))
        (retires n s r (link_of r.outward.primary) here (subst (λ x. is_possible r x ≡ true) e.0 (taken_possible r a may (ap is_rest e.0))))
  ]

  pub turned_plain : (n : ℕ) (act : Act) → can_take w n act ≡ true →
      PlainTurn b (turn_event w n act) (after_turn w b n (turn_event w n act))
  unfolding can_take may_act turn_event event_of after_turn
  turned_plain n (Hand from) can = plain-other w b n _ (hand_kind w n from (hand_message (mail_at w (way w from n))))
  turned_plain n (Look from) can = refl
  turned_plain n (Post to) can = refl
  turned_plain n (Close e) can = refl
  turned_plain n (OfRouter s a) can = go (router_at w (record { node = n; serial = s })) refl can
    where
      go : (o : Option Router) → router_at w (record { node = n; serial = s }) ≡ o → may_act o a ≡ true →
          PlainTurn b (turn_event w n (OfRouter s a)) (after_turn w b n (turn_event w n (OfRouter s a)))
      go None e h = cc
      go (Some r) e h = of_router n s a r e h
  turned_plain n Idle can = refl

  by_reply : (step : Step) (done reply : Reply) → reply ≡ done → Plain b step done (advance w b step done) →
      Plain b step reply (advance w b step reply)
  by_reply step done reply e h = subst (λ r. Plain b step r (advance w b step r)) (sym e) h

  refused : (n : ℕ) (why : Refusal) → (why ≡ refusals.Stranger) ⊎ (why ≡ refusals.NumbersEnd) →
      Plain b (steps.Turn n) (replies.Refused why) b
  refused n why (inl e) = subst (λ x. Plain b (steps.Turn n) (replies.Refused x) b) (sym e) (tt, refl)
  refused n why (inr e) = subst (λ x. Plain b (steps.Turn n) (replies.Refused x) b) (sym e) (tt, refl)

  turn_fine : (n : ℕ) (act : Act) → (n < w.count → can_take w n act ≡ true) →
      Plain b (steps.Turn n) (turn_step w n act).reply (advance w b (steps.Turn n) (turn_step w n act).reply)
  unfolding advance
  turn_fine n act can = elim (turn_reply w n act) [
    | inl t ↦ by_reply (steps.Turn n) (replies.Turned (turn_event w n act)) (turn_step w n act).reply t.0
        (turned_plain n act (can (grind (arith, t.3, nat_tests))))
    | inr t ↦ by_reply (steps.Turn n) (replies.Refused t.0) (turn_step w n act).reply t.1 (refused n t.0 t.2)
  ]

  -- the reply of a turn
  pub reply-turn : (v : World) (n : ℕ) (reply : Reply) → StepAny w (steps.Turn n) reply v →
      Plain b (steps.Turn n) reply (advance w b (steps.Turn n) reply)
  unfolding advance
  reply-turn v n reply (act, may, inl (e, f)) = by_reply (steps.Turn n) (turn_step w n act).reply reply e (turn_fine n act may)
  reply-turn v n reply (act, may, inr (grows, own, fine, (e, f))) =
      by_reply (steps.Turn n) (replies.Refused refusals.OutOfMemory) reply e (tt, refl)

  -- a router that may begin a bypass of its link holds the lock of that word
  begin_holds : (k : Key) (r : Router) (i : ℕ) → router_at w k ≡ Some r → is_possible r acts.Begin ≡ true →
      link_of r.outward.primary ≡ Central i → has (word_at w i).holder r.end.side ≡ true
  unfolding is_possible link_of word_of side_end
  begin_holds k r i here can on = go r.outward.primary refl on
    where
      holds : r.holds ≡ true
      holds = grind (arith, can)

      go : (o : Option LinkEnd) → r.outward.primary ≡ o → link_of o ≡ Central i → has (word_at w i).holder r.end.side ≡ true
      go None e l = absurd (grind (arith, can, e))
      go (Some e) q l =
          let on : has_primary (Central i) e.side r ≡ true = has_link-is r.outward.primary e (Central i) e.side q l refl in
          let is : IsOn w g k r i e.side = on_tells w b g k r i e.side law here on in
          let rec : IsRecorded w g k r e = ((links-in law) k r here).primary e q in
          let side : r.end.side ≡ e.side = ap (λ x. x.side) rec.end ∙ ap (λ x. (side_end g x e.side).side) l in
          ap (λ s. has (word_at w i).holder s) side ∙ sym (holder_is w b g k r i e.side law here is) ∙ holds

  -- which act begins a bypass
  begin_act_is : (n : ℕ) (act : Act) (s : ℕ) (l : LinkId) (r : Router) → can_take w n act ≡ true → turn_event w n act ≡ events.Begin s l →
      router_at w (record { node = n; serial = s }) ≡ Some r → (is_possible r acts.Begin ≡ true) × (link_of r.outward.primary ≡ l)
  unfolding can_take may_act turn_event event_of kind hand_seen hand_event router_seen is_rest
  begin_act_is n (Hand from) s l r can e here = go (hand_message (mail_at w (way w from n))) e
    where
      go : (o : Option _) → hand_seen w n from o ≡ events.Begin s l →
          (is_possible r acts.Begin ≡ true) × (link_of r.outward.primary ≡ l)
      go None e = cc
      go (Some m) e = cc
  begin_act_is n (Look from) s l r can e here = cc
  begin_act_is n (Post to) s l r can e here = cc
  begin_act_is n (Close end) s l r can e here = cc
  begin_act_is n Idle s l r can e here = cc
  begin_act_is n (OfRouter x a) s l r can e here = go (router_at w (record { node = n; serial = x })) refl can e
    where
      go : (o : Option Router) → router_at w (record { node = n; serial = x }) ≡ o → may_act o a ≡ true →
          router_seen w n x a o ≡ events.Begin s l → (is_possible r acts.Begin ≡ true) × (link_of r.outward.primary ≡ l)
      go None q may f = cc
      go (Some y) q may f = elim (router_kind (node_at w n) x y a (answer_of w y a)) [
        | inl t ↦ absurd (grind (arith, t, sym (ap kind (seen_event w n x a y q)), ap kind e))
        | inr (inl t) ↦ absurd (grind (arith, ap kind t.2, ap kind (seen_event w n x a y q), ap kind e))
        | inr (inr (inr (inl t))) ↦ absurd (grind (arith, ap kind t.2, ap kind (seen_event w n x a y q), ap kind e))
        | inr (inr (inr (inr t))) ↦ absurd (grind (arith, ap kind t.1, ap kind (seen_event w n x a y q), ap kind e))
        | inr (inr (inl t)) ↦
            let same : events.Begin x (link_of y.outward.primary) ≡ events.Begin s l = sym t.1 ∙ sym (seen_event w n x a y q) ∙ e in
            let serial : x ≡ s = grind (arith, same) in
            let link : link_of y.outward.primary ≡ l = grind (arith, same) in
            let router : y ≡ r = same_Some y r (sym q ∙ ap (λ z. router_at w (record { node = n; serial = z })) serial ∙ here) in
            let can : is_possible y acts.Begin ≡ true = subst (λ z. is_possible y z ≡ true) t.0 (taken_possible y a may (ap is_rest t.0)) in
            (subst (λ z. is_possible z acts.Begin ≡ true) router can, ap (λ z. link_of z.outward.primary) (sym router) ∙ link)
      ]

  pub begun_locked : (v : World) (step : Step) (reply : Reply) → StepAny w step reply v → BeginsUnderLock w step reply
  begun_locked v (steps.Open m) reply s n serial i r e f here = cc
  begun_locked v (steps.Put m at bytes ends) reply s n serial i r e f here = cc
  begun_locked v (steps.PutWide m at bytes ends) reply s n serial i r e f here = cc
  begun_locked v (steps.Get m at) reply s n serial i r e f here = cc
  begun_locked v (steps.Close m at) reply s n serial i r e f here = cc
  begun_locked v (steps.Turn m) reply (act, may, inr (grows, own, fine, (p, q))) n serial i r e f here = absurd (grind (arith, p, f))
  begun_locked v (steps.Turn m) reply (act, may, inl (p, q)) n serial i r e f here = elim (turn_reply w m act) [
    | inr t ↦ absurd (grind (arith, t.1, p, f))
    | inl t ↦
        let node : m ≡ n = grind (arith, e) in
        let turned : replies.Turned (turn_event w m act) ≡ replies.Turned (events.Begin serial (Central i)) = sym t.0 ∙ sym p ∙ f in
        let event : turn_event w m act ≡ events.Begin serial (Central i) = grind (arith, turned) in
        let c = begin_act_is m act serial (Central i) r (may (grind (arith, t.3, nat_tests))) event
        (ap (λ z. router_at w (record { node = z; serial = serial })) node ∙ here) in
        begin_holds (record { node = n; serial = serial }) r i here c.0 c.1
  ]

-- a bypass begins only under the lock of its own side
pub begins_locked : BeginsLocked
begins_locked w v b g step reply law s = begun_locked w b law.records law.inv v step reply s
