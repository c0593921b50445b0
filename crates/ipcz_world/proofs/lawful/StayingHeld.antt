-- An end of a word that is held stays held, until an act of its router lets it go.
use Rattle.ipcz_world.proofs.frames.RolesTell.{links-in}
use Rattle.std.specs.Prelude.{◌≡◌, ◌⊎◌, ◌<◌, ℕ, zero, suc, ◌+◌, Bool, true, false, cond, not, ◌&&◌, nat_eq, nat_lt, if◌then◌else◌, Option, Some, None, List, [], ◌∷◌, slice_get, refl}
use Rattle.std.proofs.Common.{sym, ◌∙◌, ap, subst, inl, inr}
use Rattle.std.proofs.lemmas.Bool.{or_cases, or_left, or_right}
use Rattle.std.proofs.lemmas.Option.{same_Some}
use Rattle.ipcz_base.proofs.Indexed.{place_at-put_place}
use Rattle.ipcz_world.proofs.Vocabulary.{Side, LinkId, Central, Peripheral, Message, Router, RouterAct, Act, Close, Hand, Node, Word, Refusal}
use Rattle.ipcz_world.proofs.Vocabulary.{router_in, router_has, inward_edge, has_link, is_outward, outbox, open_word, World, Key, way, node_at}
use Rattle.ipcz_world.proofs.Vocabulary.{mail_at, router_at, messages_in, set_node, set_word, set_claimed, set_mail, answer_of, after_act, can_take}
use Rattle.ipcz_world.proofs.Vocabulary.{hand_message, unless, Books, Reply, commit, primary_word, Printed, Wide, outward_has, source_of, Look, Post}
use Rattle.ipcz_world.proofs.Vocabulary.{Idle, on_router, with_outbox, is_named, open_node, serials_refusal, put_refusal, get_refusal, close_refusal}
use Rattle.ipcz_world.proofs.Vocabulary.{deliver, handle, fits, commit_router, rest_of, first_of, post_of, Mail, Step, has_unclaimed_word, touch}
use Rattle.ipcz_world.proofs.Vocabulary.{touch_word, source_for, after_hand, after_look, after_post, after_router_act, full_message, router_of}
use Rattle.ipcz_world.proofs.Vocabulary.{may_act, is_clear, Effect, GivesOrNoMemory, refuse, at_node, open_with, open_on, open_step, close_step}
use Rattle.ipcz_world.proofs.Vocabulary.{claim_for_open, StepAny, Routes, Lawful}
use Rattle.ipcz_base.specs.declared.refusal.Refusal.TheVariants as refusals
use Rattle.ipcz_base.specs.declared.message.Message.TheVariants as messages
use Rattle.ipcz_router.specs.Router.{inward_has}
use Rattle.ipcz_router.specs.declared.act.RouterAct.TheVariants as acts
use Rattle.ipcz_node.specs.declared.act.Act.TheVariants.{Router as OfRouter}
use Rattle.ipcz_node.specs.Node.{add_stray}
use Rattle.ipcz_node.specs.Hands.{link_asked, side_asked}
use Rattle.ipcz_world.specs.declared.mail.Mail.TheVariants as mails
use Rattle.ipcz_world.specs.declared.step.Step.TheVariants as steps
use Rattle.ipcz_world.specs.Laws.{is_flush}
use Rattle.ipcz_world.specs.WorldLaws.{HandsFit}
use Rattle.ipcz_world.specs.HeldEnds.{is_spare, router_holds, message_holds, IsEndHeld, ByRouter, ByOpen, ByOutbox, ByMailbox, lets_go, LetsGo, HeldUntilLetGo, OpeningKeepsHeld, is_turn, CallsKeepHeld}
use Rattle.ipcz_world.proofs.facts.Tests.{and_first, and_second, nat_eq-is, nat_eq-itself}
use Rattle.ipcz_world.proofs.facts.Lengths.{HasEnd, has_link-tells}
use Rattle.ipcz_world.proofs.frames.Frames.{node-set_node, node-set_word, node-set_claimed, node-set_mail}
use Rattle.ipcz_world.proofs.frames.Frames.{mail-set_node, mail-set_word, mail-set_claimed, mail-set_mail}
use Rattle.ipcz_world.proofs.runs.HeldSteps.{hand-is}
use Rattle.ipcz_world.proofs.runs.NodeKeeps.{outer_holds, NodeHolds, InRouter, InOpening, InOutbox, AreCounted, keep-same, keep-put, keep-get, keep-close, keep-close_node, keep-router, keep-handle, bring-handle, keep-open}

-- a mailbox has a message that brings the end
record BoxHolds (i : ℕ) (s : Side) (x : Mail) : Type 0 where
  pub place : ℕ
  pub message : Message
  pub there : slice_get (messages_in x) place ≡ Some message
  pub holds : message_holds i s message ≡ true

node_touched_word : (w : World) (s : Side) (x : Option ℕ) (a : RouterAct) (o : Option ℕ) (j : ℕ) → node_at (touch_word w s x a o) j ≡ node_at w j
unfolding touch_word
node_touched_word w s x a None j = refl
node_touched_word w s x a (Some i) j = node-set_word w i _ j

node_touched : (w : World) (r : Router) (a : RouterAct) (j : ℕ) → node_at (touch w r a) j ≡ node_at w j
unfolding touch
node_touched w r acts.Claim j = go (has_unclaimed_word w)
  where
    go : (c : Bool) → node_at (if c then set_claimed w (w.claimed + 1) else w) j ≡ node_at w j
    go true = node-set_claimed w (w.claimed + 1) j
    go false = refl
node_touched w r acts.Mark j = node_touched_word w r.end.side (source_of r) acts.Mark (primary_word r) j
node_touched w r acts.Wake j = node_touched_word w r.end.side (source_of r) acts.Wake (primary_word r) j
node_touched w r acts.Lock j = node_touched_word w r.end.side (source_of r) acts.Lock (primary_word r) j
node_touched w r acts.Unlock j = node_touched_word w r.end.side (source_of r) acts.Unlock (primary_word r) j
node_touched w r other j = refl

mail_touched_word : (w : World) (s : Side) (x : Option ℕ) (a : RouterAct) (o : Option ℕ) (j : ℕ) → mail_at (touch_word w s x a o) j ≡ mail_at w j
unfolding touch_word
mail_touched_word w s x a None j = refl
mail_touched_word w s x a (Some i) j = mail-set_word w i _ j

mail_touched : (w : World) (r : Router) (a : RouterAct) (j : ℕ) → mail_at (touch w r a) j ≡ mail_at w j
unfolding touch
mail_touched w r acts.Claim j = go (has_unclaimed_word w)
  where
    go : (c : Bool) → mail_at (if c then set_claimed w (w.claimed + 1) else w) j ≡ mail_at w j
    go true = mail-set_claimed w (w.claimed + 1) j
    go false = refl
mail_touched w r acts.Mark j = mail_touched_word w r.end.side (source_of r) acts.Mark (primary_word r) j
mail_touched w r acts.Wake j = mail_touched_word w r.end.side (source_of r) acts.Wake (primary_word r) j
mail_touched w r acts.Lock j = mail_touched_word w r.end.side (source_of r) acts.Lock (primary_word r) j
mail_touched w r acts.Unlock j = mail_touched_word w r.end.side (source_of r) acts.Unlock (primary_word r) j
mail_touched w r other j = refl

-- what a node holds is held
pub node_held : (v : World) (m i : ℕ) (s : Side) → NodeHolds i s (node_at v m) → IsEndHeld v i s
unfolding router_at
node_held v m i s (InRouter serial r at h) = ByRouter (record { node = m; serial = serial }) r at (go (or_cases _ _ h))
  where
    go : (outward_has r (Central i) s ≡ true) ⊎ (is_spare i r.spare ≡ true) → router_holds i s r ≡ true
    go (inl t) = or_left _ _ (or_left _ _ t)
    go (inr t) = or_right _ _ t
node_held v m i s (InOpening e) = ByOpen m e
node_held v m i s (InOutbox to place z at h) = ByOutbox m to place z at h

module _ (w : World) (b : Books) (g : Routes) (law : Lawful w b g) (i : ℕ) (s : Side) where
  -- held by a node, or in a mailbox
  data Held : Type 0 where
    InNode : (m : ℕ) → NodeHolds i s (node_at w m) → Held
    InMail : (k : ℕ) → BoxHolds i s (mail_at w k) → Held

  not_inward : (l : LinkId) (t : Side) → l ≡ Central i → is_outward l t ≡ false → ⊥
  unfolding is_outward
  not_inward (Central j) t e o = cc
  not_inward (Peripheral m x) t e o = cc

  -- a router holds an end outward, or by its spare
  pub outer : (k : Key) (r : Router) → router_at w k ≡ Some r → router_holds i s r ≡ true → outer_holds i s r ≡ true
  outer k r here h = go (or_cases _ _ h)
    where
      inner : (has_link (inward_edge r).primary (Central i) s ≡ true) ⊎ (has_link (inward_edge r).decaying (Central i) s ≡ true) → ⊥
      inner (inl q) = let e : HasEnd (inward_edge r).primary (Central i) s = has_link-tells (inward_edge r).primary (Central i) s q in
          not_inward e.end.link e.end.side e.on_link (((links-in law.inv) k r here).inward_primary_inward e.end e.there)
      inner (inr q) = let e : HasEnd (inward_edge r).decaying (Central i) s = has_link-tells (inward_edge r).decaying (Central i) s q in
          not_inward e.end.link e.end.side e.on_link (((links-in law.inv) k r here).inward_decaying_inward e.end e.there)

      linked : (outward_has r (Central i) s ≡ true) ⊎ (inward_has r (Central i) s ≡ true) → outer_holds i s r ≡ true
      linked (inl t) = or_left _ _ t
      linked (inr t) = absurd (inner (or_cases _ _ t))

      go : (router_has r (Central i) s ≡ true) ⊎ (is_spare i r.spare ≡ true) → outer_holds i s r ≡ true
      go (inl t) = linked (or_cases _ _ t)
      go (inr t) = or_right _ _ t

  held_is : IsEndHeld w i s → Held
  unfolding router_at
  held_is (ByRouter k r here h) = InNode k.node (InRouter k.serial r here (outer k r here h))
  held_is (ByOpen n e) = InNode n (InOpening e)
  held_is (ByOutbox from to place m at h) = InNode from (InOutbox to place m at h)
  held_is (ByMailbox k place m at h) = InMail k (record { place = place; message = m; there = at; holds = h })

  counted : (n : ℕ) → AreCounted (node_at w n)
  unfolding router_at
  counted n t r at = law.inv.counts.serial (record { node = n; serial = t }) r at

  -- another world, with another node and another mailbox
  module _ (v : World) (n : ℕ) (y : Node) (q : ℕ) (z : Mail) (nodes : (j : ℕ) → node_at v j ≡ cond (nat_eq j n) y (node_at w j))
      (mailed : (k : ℕ) → mail_at v k ≡ cond (nat_eq k q) z (mail_at w k)) where
    in_node : NodeHolds i s y → IsEndHeld v i s
    in_node h = node_held v n i s (subst (NodeHolds i s) (sym (nodes n ∙ ap (λ c. cond c y (node_at w n)) (nat_eq-itself n))) h)

    in_box : BoxHolds i s z → IsEndHeld v i s
    in_box h = ByMailbox q h.place h.message
        (ap (λ x. slice_get (messages_in x) h.place) (mailed q ∙ ap (λ c. cond c z (mail_at w q)) (nat_eq-itself q)) ∙ h.there) h.holds

    kept_in : {L : Type 0} → (NodeHolds i s (node_at w n) → (NodeHolds i s y ⊎ BoxHolds i s z) ⊎ L) →
        (BoxHolds i s (mail_at w q) → NodeHolds i s y ⊎ BoxHolds i s z) → Held → IsEndHeld v i s ⊎ L
    kept_in {L} node box (InNode m h) = go (nat_eq m n) refl
      where
        done : (NodeHolds i s y ⊎ BoxHolds i s z) ⊎ L → IsEndHeld v i s ⊎ L
        done (inl (inl e)) = inl (in_node e)
        done (inl (inr e)) = inl (in_box e)
        done (inr e) = inr e

        go : (c : Bool) → nat_eq m n ≡ c → IsEndHeld v i s ⊎ L
        go true e = done (node (subst (λ j. NodeHolds i s (node_at w j)) (nat_eq-is m n e) h))
        go false e = inl (node_held v m i s (subst (NodeHolds i s) (sym (nodes m ∙ ap (λ c. cond c y (node_at w m)) e)) h))
    kept_in {L} node box (InMail k h) = go (nat_eq k q) refl
      where
        done : NodeHolds i s y ⊎ BoxHolds i s z → IsEndHeld v i s ⊎ L
        done (inl e) = inl (in_node e)
        done (inr e) = inl (in_box e)

        go : (c : Bool) → nat_eq k q ≡ c → IsEndHeld v i s ⊎ L
        go true e = done (box (subst (λ j. BoxHolds i s (mail_at w j)) (nat_eq-is k q e) h))
        go false e = inl (ByMailbox k h.place h.message
            (ap (λ x. slice_get (messages_in x) h.place) (mailed k ∙ ap (λ c. cond c z (mail_at w k)) e) ∙ h.there) h.holds)

  -- another world, with another node alone
  kept_node : (u : World) (n : ℕ) (y : Node) {L : Type 0} → ((j : ℕ) → node_at u j ≡ node_at w j) → ((k : ℕ) → mail_at u k ≡ mail_at w k) →
      (NodeHolds i s (node_at w n) → NodeHolds i s y ⊎ L) → Held → IsEndHeld (set_node u n y) i s ⊎ L
  kept_node u n y {L} same mails_are node h = kept_in (set_node u n y) n y 0 (mail_at w 0)
      (λ j. node-set_node u n y j ∙ ap (cond (nat_eq j n) y) (same j))
      (λ k. mail-set_node u n y k ∙ mails_are k ∙ by k (nat_eq k 0) refl) (λ x. put (node x)) (λ x. inr x) h
    where
      by : (k : ℕ) (c : Bool) → nat_eq k 0 ≡ c → mail_at w k ≡ cond c (mail_at w 0) (mail_at w k)
      by k true e = ap (mail_at w) (nat_eq-is k 0 e)
      by k false e = refl

      put : NodeHolds i s y ⊎ L → (NodeHolds i s y ⊎ BoxHolds i s (mail_at w 0)) ⊎ L
      put (inl e) = inl (inl e)
      put (inr e) = inr e

  -- messages
  keep_deliver : (n from : ℕ) (m : Message) (o : Option ℕ) → NodeHolds i s (node_at w n) → NodeHolds i s (deliver (node_at w n) from m o)
  unfolding deliver
  keep_deliver n from m o h = keep-same i s _ _ refl refl refl (go (fits (node_at w n) from m o) refl)
    where
      go : (c : Bool) → fits (node_at w n) from m o ≡ c → NodeHolds i s (cond c (handle (node_at w n) from m) (add_stray (node_at w n) m))
      go true e = keep-handle i s (node_at w n) from m o (counted n) e h
      go false e = keep-same i s (node_at w n) _ refl refl refl h

  bring_deliver : (n from : ℕ) (m : Message) (o : Option ℕ) → fits (node_at w n) from m o ≡ true → message_holds i s m ≡ true →
      NodeHolds i s (deliver (node_at w n) from m o)
  unfolding deliver
  bring_deliver n from m o fit h = keep-same i s _ _ refl refl refl (subst (λ c. NodeHolds i s (cond c (handle (node_at w n) from m)
      (add_stray (node_at w n) m))) (sym fit) (bring-handle i s (node_at w n) from m o fit h))

  -- what brings an end is no Flush
  no_flush : (m : Message) → message_holds i s m ≡ true → is_flush m ≡ true → ⊥
  unfolding message_holds is_flush
  no_flush (messages.Flush link side) h e = cc
  no_flush other h e = cc

  hand_fits : HandsFit → (n from : ℕ) (m : Message) → n < w.count → (node_at w n).hand ≡ Some from → hand_message (mail_at w (way w from n)) ≡ Some m →
      message_holds i s m ≡ true → fits (node_at w n) from m (source_for w m) ≡ true
  hand_fits fit n from m ln hand in_hand h = go (fits (node_at w n) from m (source_for w m)) refl
    where
      go : (c : Bool) → fits (node_at w n) from m (source_for w m) ≡ c → fits (node_at w n) from m (source_for w m) ≡ true
      go true e = e
      go false e = absurd (no_flush m h (fit w b g n from m law ln hand in_hand
          (ap (λ c. not (c && is_named (node_at w n) (link_asked m) (side_asked m))) e)))

  one_in_hand : (x : Mail) (m : Message) → hand_message x ≡ Some m → BoxHolds i s x → message_holds i s m ≡ true
  unfolding hand_message messages_in
  one_in_hand mails.Empty m e h = cc
  one_in_hand (mails.Full y) m e h = cc
  one_in_hand (mails.Hand y) m e h = subst (λ z. message_holds i s z ≡ true) (only h.place h.message h.there ∙ same_Some y m e) h.holds
    where
      only : (place : ℕ) (z : Message) → slice_get (y ∷ []) place ≡ Some z → z ≡ y
      only zero z q = sym (same_Some y z q)
      only (suc p) z q = cc

  handed : HandsFit → (n from : ℕ) (o : Option Message) → n < w.count → (node_at w n).hand ≡ Some from →
      hand_message (mail_at w (way w from n)) ≡ o → Held → IsEndHeld (after_hand w n from o) i s ⊎ ⊥
  unfolding after_hand
  handed fit n from None ln hand e h = again h
    where
      again : Held → IsEndHeld w i s ⊎ ⊥
      again (InNode m q) = inl (node_held w m i s q)
      again (InMail k q) = inl (ByMailbox k q.place q.message q.there q.holds)
  handed fit n from (Some m) ln hand e h =
      let y : Node = deliver (node_at w n) from m (source_for w m) in
      kept_in (set_mail (set_node w n y) (way w from n) mails.Empty) n y (way w from n) mails.Empty
      (λ j. node-set_mail (set_node w n y) (way w from n) mails.Empty j ∙ node-set_node w n y j)
      (λ k. mail-set_mail (set_node w n y) (way w from n) mails.Empty k ∙ ap (cond (nat_eq k (way w from n)) mails.Empty) (mail-set_node w n y k))
      (λ q. inl (inl (keep_deliver n from m (source_for w m) q)))
      (λ q. let z = one_in_hand (mail_at w (way w from n)) m e q in
      inl (bring_deliver n from m (source_for w m) (hand_fits fit n from m ln hand e z) z)) h

  again : Held → IsEndHeld w i s
  again (InNode m q) = node_held w m i s q
  again (InMail k q) = ByMailbox k q.place q.message q.there q.holds

  full_box : (x : Mail) (m : Message) → full_message x ≡ Some m → BoxHolds i s x → BoxHolds i s (mails.Hand m)
  unfolding full_message messages_in
  full_box mails.Empty m e h = cc
  full_box (mails.Full y) m e h = record {
    place = h.place;
    message = h.message;
    there = ap (λ z. slice_get (z ∷ []) h.place) (sym (same_Some y m e)) ∙ h.there;
    holds = h.holds;
  }
  full_box (mails.Hand y) m e h = cc

  looked : (n from : ℕ) (o : Option Message) → full_message (mail_at w (way w from n)) ≡ o → Held → IsEndHeld (after_look w n from o) i s ⊎ ⊥
  unfolding after_look commit
  looked n from None e h = inl (again h)
  looked n from (Some m) e h =
      let y : Node = record (node_at w n) { hand = Some from } in
      kept_in (set_mail (set_node w n y) (way w from n) (mails.Hand m)) n y (way w from n) (mails.Hand m)
      (λ j. node-set_mail (set_node w n y) (way w from n) (mails.Hand m) j ∙ node-set_node w n y j)
      (λ k. mail-set_mail (set_node w n y) (way w from n) (mails.Hand m) k ∙ ap (cond (nat_eq k (way w from n)) (mails.Hand m)) (mail-set_node w n y k))
      (λ q. inl (inl (keep-same i s (node_at w n) y refl refl refl q)))
      (λ q. inr (full_box (mail_at w (way w from n)) m e q)) h

  -- the first message of an outbox goes into the mailbox
  posted_node : (x : Node) (to : ℕ) (m : Message) → first_of (outbox x to) ≡ Some m → NodeHolds i s x →
      NodeHolds i s (with_outbox x to (rest_of (outbox x to))) ⊎ BoxHolds i s (mails.Full m)
  unfolding messages_in first_of rest_of
  posted_node x to m e (InRouter serial r at h) = inl (InRouter serial r at h)
  posted_node x to m e (InOpening q) = inl (InOpening q)
  posted_node x to m e (InOutbox j place z at h) = go (nat_eq j to) refl
    where
      y : Node
      y = with_outbox x to (rest_of (outbox x to))

      box : (k : ℕ) → outbox y k ≡ cond (nat_eq k to) (rest_of (outbox x to)) (outbox x k)
      box k = place_at-put_place [] x.outboxes to (rest_of (outbox x to)) k

      first : (ms : List Message) (p : ℕ) → first_of ms ≡ Some m → slice_get ms p ≡ Some z → (slice_get (rest_of ms) 0 ≡ Some z → ⊥) ⊎ (z ≡ z) →
          ((q : ℕ) × (slice_get (rest_of ms) q ≡ Some z)) ⊎ (z ≡ m)
      first [] p f g u = cc
      first (a ∷ more) zero f g u = inr (sym (same_Some a z g) ∙ same_Some a m f)
      first (a ∷ more) (suc p) f g u = inl (p, g)

      moved : ((q : ℕ) × (slice_get (rest_of (outbox x to)) q ≡ Some z)) ⊎ (z ≡ m) → nat_eq j to ≡ true →
          NodeHolds i s y ⊎ BoxHolds i s (mails.Full m)
      moved (inl (q, f)) c = inl (InOutbox j q z (ap (λ ms. slice_get ms q) (box j ∙ ap (λ d. cond d (rest_of (outbox x to)) (outbox x j)) c) ∙ f) h)
      moved (inr f) c = inr (record { place = 0; message = m; there = refl; holds = subst (λ a. message_holds i s a ≡ true) f h })

      go : (c : Bool) → nat_eq j to ≡ c → NodeHolds i s y ⊎ BoxHolds i s (mails.Full m)
      go true c = moved (first (outbox x to) place e (ap (λ k. slice_get (outbox x k) place) (sym (nat_eq-is j to c)) ∙ at) (inr refl)) c
      go false c = inl (InOutbox j place z (ap (λ ms. slice_get ms place) (box j ∙ ap (λ d. cond d (rest_of (outbox x to)) (outbox x j)) c) ∙ at) h)

  clear_box : (x : Mail) → is_clear x ≡ true → BoxHolds i s x → ⊥
  unfolding is_clear messages_in
  clear_box mails.Empty e h = none h.place h.message h.there
    where
      none : (place : ℕ) (m : Message) → slice_get {X = Message} [] place ≡ Some m → ⊥
      none place m q = cc
  clear_box (mails.Full y) e h = cc
  clear_box (mails.Hand y) e h = cc

  posted : (n to : ℕ) (o : Option Message) → first_of (outbox (node_at w n) to) ≡ o → is_clear (mail_at w (way w n to)) ≡ true → Held →
      IsEndHeld (after_post w n to o) i s ⊎ ⊥
  unfolding after_post commit
  posted n to None e clear h = inl (again h)
  posted n to (Some m) e clear h =
      let y : Node = with_outbox (node_at w n) to (rest_of (outbox (node_at w n) to)) in
      kept_in (set_mail (set_node w n y) (way w n to) (mails.Full m)) n y (way w n to) (mails.Full m)
      (λ j. node-set_mail (set_node w n y) (way w n to) (mails.Full m) j ∙ node-set_node w n y j)
      (λ k. mail-set_mail (set_node w n y) (way w n to) (mails.Full m) k ∙ ap (cond (nat_eq k (way w n to)) (mails.Full m)) (mail-set_node w n y k))
      (λ q. inl (posted_node (node_at w n) to m e q))
      (λ q. absurd (clear_box (mail_at w (way w n to)) clear q)) h

  -- an act of a router
  routed : (n serial : ℕ) (act : RouterAct) (o : Option Router) → router_at w (record { node = n; serial = serial }) ≡ o → may_act o act ≡ true →
      Held → IsEndHeld (after_router_act w n serial act o) i s ⊎ LetsGo w n (OfRouter serial act) i s
  unfolding after_router_act commit on_router may_act router_at
  routed n serial act None here may h = inl (again h)
  routed n serial act (Some r) here may h =
      kept_node (touch w r act) n _ (node_touched w r act) (mail_touched w r act) (λ q. gone (subst (λ o. NodeHolds i s
      (on_router (node_at w n) o (commit_router (node_at w n) serial act (answer_of w r act))) ⊎ (lets_go i s r act ≡ true)) (sym here)
      (keep-router i s (node_at w n) serial act (answer_of w r act) r here may (law.inv.shape (record { node = n; serial = serial }) r here).role q))) h
    where
      gone : NodeHolds i s (on_router (node_at w n) (router_in (node_at w n) serial) (commit_router (node_at w n) serial act (answer_of w r act))) ⊎
          (lets_go i s r act ≡ true) →
          NodeHolds i s (on_router (node_at w n) (router_in (node_at w n) serial) (commit_router (node_at w n) serial act (answer_of w r act))) ⊎
          LetsGo w n (OfRouter serial act) i s
      gone (inl q) = inl q
      gone (inr q) = inr (record { serial = serial; deed = act; router = r; is = refl; here = here; gone = q })

  -- an act that may be taken
  nothing_gone : {v : World} {L : Type 0} → IsEndHeld v i s ⊎ ⊥ → IsEndHeld v i s ⊎ L
  nothing_gone (inl h) = inl h
  nothing_gone (inr e) = absurd e

  pub acted_held : HandsFit → (n : ℕ) (act : Act) → n < w.count → can_take w n act ≡ true → IsEndHeld w i s →
      IsEndHeld (after_act w n act) i s ⊎ LetsGo w n act i s
  unfolding after_act can_take post_of commit
  acted_held fit n (Hand from) ln can h = nothing_gone (handed fit n from (hand_message (mail_at w (way w from n))) ln
      (hand-is (node_at w n).hand from (and_first _ _ can)) refl (held_is h))
  acted_held fit n (Look from) ln can h = nothing_gone (looked n from (full_message (mail_at w (way w from n))) refl (held_is h))
  acted_held fit n (Post to) ln can h = nothing_gone (posted n to (first_of (outbox (node_at w n) to)) refl
      (and_second _ _ (and_second (nat_lt to w.count) _ can)) (held_is h))
  acted_held fit n (Close e) ln can h = kept_node w n _ (λ j. refl) (λ k. refl)
      (λ q. inl (keep-close i s _ e (keep-same i s (node_at w n) _ refl refl refl q))) (held_is h)
  acted_held fit n (OfRouter serial act) ln can h = routed n serial act (router_of w n serial) refl can (held_is h)
  acted_held fit n Idle ln can h = inl h

  -- calls
  unless_held : (o : Option Refusal) (done : Effect) → IsEndHeld w i s → IsEndHeld done.world i s → IsEndHeld (unless w o done).world i s
  unfolding unless
  unless_held None done h q = q
  unless_held (Some why) done h q = h

  at_node_held : (n : ℕ) (done : Effect) → IsEndHeld w i s → IsEndHeld done.world i s → IsEndHeld (at_node w n done).world i s
  at_node_held n done h q = go (nat_lt n w.count)
    where
      go : (c : Bool) → IsEndHeld (if c then done else refuse w refusals.Stranger).world i s
      go true = q
      go false = h

  surely : {v : World} → IsEndHeld v i s ⊎ ⊥ → IsEndHeld v i s
  surely (inl h) = h
  surely (inr e) = absurd e

  set_word_held : (u : World) (j : ℕ) (x : Word) → IsEndHeld u i s → IsEndHeld (set_word u j x) i s
  unfolding set_word router_at node_at mail_at
  set_word_held u j x (ByRouter k r here h) = ByRouter k r here h
  set_word_held u j x (ByOpen n e) = ByOpen n e
  set_word_held u j x (ByOutbox from to place m at h) = ByOutbox from to place m at h
  set_word_held u j x (ByMailbox k place m at h) = ByMailbox k place m at h

  opened_held : (u : World) (n j : ℕ) → ((k : ℕ) → node_at u k ≡ node_at w k) → ((k : ℕ) → mail_at u k ≡ mail_at w k) →
      ((k : ℕ) → (node_at w n).opening ≡ Some k → k ≡ j) → IsEndHeld w i s → IsEndHeld (open_with w u n j).world i s
  opened_held u n j same mails_are mine h = unless_held (serials_refusal (node_at w n)) _ h (set_word_held _ j open_word
      (surely (kept_node u n (open_node (node_at w n) j) same mails_are (λ q. inl (keep-open i s (node_at w n) j (counted n) mine q)) (held_is h))))

  open_held : (n : ℕ) (o : Option ℕ) → (node_at w n).opening ≡ o → IsEndHeld w i s → IsEndHeld (open_on w n o).world i s
  unfolding open_on
  open_held n (Some j) e h = opened_held w n j (λ k. refl) (λ k. refl) (λ k f. same_Some k j (sym f ∙ e)) h
  open_held n None e h = go (has_unclaimed_word w)
    where
      no : (k : ℕ) → (node_at w n).opening ≡ Some k → k ≡ w.claimed
      no k f = absurd (none_some (sym e ∙ f))
        where
          none_some : None ≡ Some k → ⊥
          none_some q = cc

      go : (c : Bool) → IsEndHeld (if c then open_with w (set_claimed w (w.claimed + 1)) n w.claimed else refuse w refusals.NoWord).world i s
      go true = opened_held (set_claimed w (w.claimed + 1)) n w.claimed (node-set_claimed w (w.claimed + 1)) (mail-set_claimed w (w.claimed + 1)) no h
      go false = h

  -- the first half of an open
  pub opening_held : (n : ℕ) → (node_at w n).opening ≡ None → IsEndHeld w i s → IsEndHeld (claim_for_open w n) i s
  unfolding set_claimed set_node
  opening_held n idle h = surely (kept_node (set_claimed w (w.claimed + 1)) n (record (node_at w n) { opening = Some w.claimed })
      (node-set_claimed w (w.claimed + 1)) (mail-set_claimed w (w.claimed + 1)) (λ q. inl (keeps q)) (held_is h))
    where
      keeps : NodeHolds i s (node_at w n) → NodeHolds i s (record (node_at w n) { opening = Some w.claimed })
      keeps (InRouter serial r at q) = InRouter serial r at q
      keeps (InOpening e) = absurd (let f = sym idle ∙ e in cc)
      keeps (InOutbox to place m at q) = InOutbox to place m at q

  noded_held : (n : ℕ) (o : Option Refusal) (reply : Reply) (x : Node) → (NodeHolds i s (node_at w n) → NodeHolds i s x) → IsEndHeld w i s →
      IsEndHeld (at_node w n (unless w o (record { reply = reply; world = set_node w n x }))).world i s
  noded_held n o reply x keeps h = at_node_held n _ h (unless_held o _ h
      (surely (kept_node w n x (λ j. refl) (λ k. refl) (λ q. inl (keeps q)) (held_is h))))

  given_held : (v : World) (done : Effect) (reply : Reply) → IsEndHeld w i s → IsEndHeld done.world i s → GivesOrNoMemory w done reply v →
      IsEndHeld v i s
  given_held v done reply h q (inl (e, f)) = subst (λ u. IsEndHeld u i s) (sym f) q
  given_held v done reply h q (inr (fine, (e, f))) = subst (λ u. IsEndHeld u i s) (sym f) h

  pub called_held : (v : World) (step : Step) (reply : Reply) → is_turn step ≡ false → StepAny w step reply v → IsEndHeld w i s → IsEndHeld v i s
  unfolding is_turn
  called_held v (steps.Open n) reply t x h = given_held v (open_step w n) reply h
      (at_node_held n _ h (open_held n (node_at w n).opening refl h)) x
  called_held v (steps.Put n at bytes ends) reply t (inl (e, f)) h = subst (λ u. IsEndHeld u i s) (sym f)
      (noded_held n (put_refusal Printed (node_at w n) at bytes ends) _ _ (keep-put i s (node_at w n) at (record { bytes = bytes; ends = ends })) h)
  called_held v (steps.Put n at bytes ends) reply t (inr (l, (e, f))) h = subst (λ u. IsEndHeld u i s) (sym f) h
  called_held v (steps.PutWide n at bytes ends) reply t (inl (e, f)) h = subst (λ u. IsEndHeld u i s) (sym f)
      (noded_held n (put_refusal Wide (node_at w n) at bytes ends) _ _ (keep-put i s (node_at w n) at (record { bytes = bytes; ends = ends })) h)
  called_held v (steps.PutWide n at bytes ends) reply t (inr (l, (e, f))) h = subst (λ u. IsEndHeld u i s) (sym f) h
  called_held v (steps.Get n at) reply t (e, f) h = subst (λ u. IsEndHeld u i s) (sym f)
      (noded_held n (get_refusal (node_at w n) at) _ _ (keep-get i s (node_at w n) at) h)
  called_held v (steps.Close n at) reply t x h = given_held v (close_step w n at) reply h
      (noded_held n (close_refusal (node_at w n) at) _ _ (keep-close_node i s (node_at w n) at) h) x
  called_held v (steps.Turn n) reply t x h = cc

pub held_until_let_go : HandsFit → HeldUntilLetGo
held_until_let_go fit w b g n act i s law ln can h = acted_held w b g law i s fit n act ln can h

pub calls_keep_held : CallsKeepHeld
calls_keep_held w v b g step reply i s law t x h = called_held w b g law i s v step reply t x h

pub opening_keeps_held : OpeningKeepsHeld
opening_keeps_held w b g n i s law idle h = opening_held w b g law i s n idle h
