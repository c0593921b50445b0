-- Each step of a world leaves no ends of words held but those that were held or whose word it claims.
use Rattle.std.specs.Prelude.{◌≡◌, ◌<◌, ℕ, ◌+◌, Bool, true, false, cond, nat_eq, nat_lt, if◌then◌else◌, Option, Some, None, List, [], ◌∷◌, slice_get, refl}
use Rattle.std.proofs.Common.{arith, sym, ap, subst, inl, inr}
use Rattle.std.proofs.lemmas.Bool.Decides.{nat_tests}
use Rattle.ipcz_world.proofs.facts.Tests.{and_first}
use Rattle.std.proofs.lemmas.Option.{same_Some}
use Rattle.ipcz_world.proofs.Vocabulary.{Side, Message, Router, RouterAct, Act, Close, Hand, Node, Word, Refusal, router_in, outbox, commit, World}
use Rattle.ipcz_world.proofs.Vocabulary.{way, node_at, mail_at, router_at, messages_in, flow, set_node, set_word, set_claimed, set_mail, answer_of}
use Rattle.ipcz_world.proofs.Vocabulary.{after_act, can_take, hand_message, unless, Books, Records, Inv, Reply, Printed, Wide, Plan, Locks, Waits}
use Rattle.ipcz_world.proofs.Vocabulary.{Refuses, plan_of, source_of, Look, Post, Idle, on_router, serials_refusal, put_refusal, get_refusal}
use Rattle.ipcz_world.proofs.Vocabulary.{close_refusal, is_hand_of, commit_router, post_of, first_of, Mail, Step, has_unclaimed_word, link_answer}
use Rattle.ipcz_world.proofs.Vocabulary.{word_answer, touch, touch_word, source_for, after_hand, after_look, after_post, after_router_act}
use Rattle.ipcz_world.proofs.Vocabulary.{full_message, turn_lacks_serials, Effect, GivesOrNoMemory, refuse, at_node, open_with, open_on, open_step}
use Rattle.ipcz_world.proofs.Vocabulary.{claim_for_open, close_step, StepAny}
use Rattle.ipcz_base.specs.declared.refusal.Refusal.TheVariants as refusals
use Rattle.ipcz_router.specs.Router.{primary_word}
use Rattle.ipcz_router.specs.declared.act.RouterAct.TheVariants as acts
use Rattle.ipcz_router.specs.declared.act.Answer.TheVariants as answers
use Rattle.ipcz_node.specs.declared.act.Act.TheVariants.{Router as OfRouter}
use Rattle.ipcz_world.specs.declared.mail.Mail.TheVariants as mails
use Rattle.ipcz_world.specs.declared.step.Step.TheVariants as steps
use Rattle.ipcz_world.specs.WordAnswers.{try_answer}
use Rattle.ipcz_world.proofs.frames.Frames.{node-set_node, node-set_word, node-set_claimed, node-set_mail}
use Rattle.ipcz_world.proofs.frames.Frames.{mail-set_node, mail-set_word, mail-set_claimed, mail-set_mail}
use Rattle.ipcz_world.proofs.runs.NodeEnds.{Ends, SpareEnds, MessageEnds, BoxEnds, NodeEnds, AnswerEnds}
use Rattle.ipcz_world.proofs.runs.NodeEnds.{ends-without, ends-same, ends-box, box-rest, apply-ends, output-ends, act-ends, put-ends, get-ends, close-ends, close_node-ends, open-ends, deliver-ends}

-- a message in hand is under way
pub hand_flow : (w : World) (from n : ℕ) (y : Mail) (m : Message) → mail_at w (way w from n) ≡ y → hand_message y ≡ Some m →
    slice_get (flow w from n) 0 ≡ Some m
unfolding hand_message messages_in flow
hand_flow w from n (mails.Hand x) m at h = rw at h
hand_flow w from n mails.Empty m at h = cc
hand_flow w from n (mails.Full x) m at h = cc

pub hand-is : (o : Option ℕ) (from : ℕ) → is_hand_of o from ≡ true → o ≡ Some from
unfolding is_hand_of
hand-is None from h = cc
hand-is (Some s) from h = let e : s ≡ from = grind (arith, h, nat_tests) in ap Some e

-- what is said of ends is so of all that are held in a world
pub record WorldEnds (P : Ends) (w : World) : Type 0 where
  pub node : (n : ℕ) → NodeEnds P (node_at w n)
  pub mail : (k : ℕ) → BoxEnds P (messages_in (mail_at w k))

module _ (P : Ends) where
  pub world-node : (w : World) (n : ℕ) (x : Node) → WorldEnds P w → NodeEnds P x → WorldEnds P (set_node w n x)
  world-node w n x law is = record {
    node = λ j. subst (NodeEnds P) (sym (node-set_node w n x j)) (go j (nat_eq j n));
    mail = λ k. subst (λ m. BoxEnds P (messages_in m)) (sym (mail-set_node w n x k)) (law.mail k);
  }
    where
      go : (j : ℕ) (c : Bool) → NodeEnds P (cond c x (node_at w j))
      go j true = is
      go j false = law.node j

  pub world-word : (w : World) (i : ℕ) (x : Word) → WorldEnds P w → WorldEnds P (set_word w i x)
  world-word w i x law = record {
    node = λ j. subst (NodeEnds P) (sym (node-set_word w i x j)) (law.node j);
    mail = λ k. subst (λ m. BoxEnds P (messages_in m)) (sym (mail-set_word w i x k)) (law.mail k);
  }

  pub world-claimed : (w : World) (c : ℕ) → WorldEnds P w → WorldEnds P (set_claimed w c)
  world-claimed w c law = record {
    node = λ j. subst (NodeEnds P) (sym (node-set_claimed w c j)) (law.node j);
    mail = λ k. subst (λ m. BoxEnds P (messages_in m)) (sym (mail-set_claimed w c k)) (law.mail k);
  }

  pub world-mail : (w : World) (k : ℕ) (x : Mail) → WorldEnds P w → BoxEnds P (messages_in x) → WorldEnds P (set_mail w k x)
  world-mail w k x law is = record {
    node = λ j. subst (NodeEnds P) (sym (node-set_mail w k x j)) (law.node j);
    mail = λ j. subst (λ m. BoxEnds P (messages_in m)) (sym (mail-set_mail w k x j)) (go j (nat_eq j k));
  }
    where
      go : (j : ℕ) (c : Bool) → BoxEnds P (messages_in (cond c x (mail_at w j)))
      go j true = is
      go j false = law.mail j

  touch_word-ends : (w : World) (s : Side) (x : Option ℕ) (act : RouterAct) (o : Option ℕ) → WorldEnds P w → WorldEnds P (touch_word w s x act o)
  unfolding touch_word
  touch_word-ends w s x act None law = law
  touch_word-ends w s x act (Some i) law = world-word w i _ law

  pub touch-ends : (w : World) (r : Router) (act : RouterAct) → WorldEnds P w → WorldEnds P (touch w r act)
  unfolding touch
  touch-ends w r acts.Claim law = go (has_unclaimed_word w)
    where
      go : (c : Bool) → WorldEnds P (if c then set_claimed w (w.claimed + 1) else w)
      go true = world-claimed w (w.claimed + 1) law
      go false = law
  touch-ends w r acts.Mark law = touch_word-ends w r.end.side (source_of r) acts.Mark (primary_word r) law
  touch-ends w r acts.Wake law = touch_word-ends w r.end.side (source_of r) acts.Wake (primary_word r) law
  touch-ends w r acts.Lock law = touch_word-ends w r.end.side (source_of r) acts.Lock (primary_word r) law
  touch-ends w r acts.Unlock law = touch_word-ends w r.end.side (source_of r) acts.Unlock (primary_word r) law
  touch-ends w r other law = law

  -- no answer but that of a claim names a word
  try-ends : (x : Word) (s : Side) (source : Option ℕ) (plan : Plan) → AnswerEnds P (try_answer x s source plan)
  unfolding try_answer
  try-ends x s source Locks = tt
  try-ends x s source Waits = tt
  try-ends x s source Refuses = tt

  word-ends : (x : Word) (s : Side) (source : Option ℕ) (act : RouterAct) → AnswerEnds P (word_answer x s source act)
  unfolding word_answer
  word-ends x s source acts.Mark = tt
  word-ends x s source acts.Wake = tt
  word-ends x s source acts.Lock = try-ends x s source (plan_of x s)
  word-ends x s source acts.Unlock = tt
  word-ends x s source other = tt

  link-ends : (w : World) (s : Side) (source : Option ℕ) (act : RouterAct) (o : Option ℕ) → AnswerEnds P (link_answer w s source act o)
  unfolding link_answer
  link-ends w s source act None = tt
  link-ends w s source act (Some i) = word-ends _ s source act

  pub answer-ends : (w : World) (r : Router) (act : RouterAct) → ((s : Side) → P w.claimed s) → AnswerEnds P (answer_of w r act)
  unfolding answer_of
  answer-ends w r acts.Claim new = go (has_unclaimed_word w)
    where
      go : (c : Bool) → AnswerEnds P (if c then answers.Claimed w.claimed else answers.NoWord)
      go true = new
      go false = tt
  answer-ends w r other new = link-ends w r.end.side (source_of r) other (primary_word r)

  -- the message in hand, a full mailbox's, and the first of an outbox
  hand-ends : (x : Mail) (m : Message) → BoxEnds P (messages_in x) → hand_message x ≡ Some m → MessageEnds P m
  unfolding hand_message messages_in
  hand-ends mails.Empty m law h = cc
  hand-ends (mails.Full y) m law h = cc
  hand-ends (mails.Hand y) m law h = subst (MessageEnds P) (same_Some y m h) law.0

  full-ends : (x : Mail) (m : Message) → BoxEnds P (messages_in x) → full_message x ≡ Some m → MessageEnds P m
  unfolding full_message messages_in
  full-ends mails.Empty m law h = cc
  full-ends (mails.Full y) m law h = subst (MessageEnds P) (same_Some y m h) law.0
  full-ends (mails.Hand y) m law h = cc

  first-ends : (ms : List Message) (m : Message) → BoxEnds P ms → first_of ms ≡ Some m → MessageEnds P m
  unfolding first_of
  first-ends [] m law h = cc
  first-ends (x ∷ xs) m law h = subst (MessageEnds P) (same_Some x m h) law.0

  module _ (w : World) (b : Books) (g : Records) (law : Inv w b g) (is : WorldEnds P w) (new : (s : Side) → P w.claimed s) where
    handed-ends : (n from : ℕ) → n < w.count → can_take w n (Hand from) ≡ true → (o : Option Message) →
        hand_message (mail_at w (way w from n)) ≡ o → WorldEnds P (after_hand w n from o)
    unfolding after_hand can_take messages_in
    handed-ends n from ln can None e = is
    handed-ends n from ln can (Some m) e = world-mail _ _ mails.Empty
        (world-node w n _ is (deliver-ends P (node_at w n) from m (source_for w m) (is.node n) (hand-ends (mail_at w (way w from n)) m (is.mail _) e)
        (λ j d h. law.moves.peripheral from n 0 j m d (record {
          sender = law.counts.hand_from n from ln (hand-is (node_at w n).hand from (and_first _ _ can));
          receiver = ln;
          place = hand_flow w from n (mail_at w (way w from n)) m refl e;
        }) h))) tt

    looked-ends : (n from : ℕ) (o : Option Message) → full_message (mail_at w (way w from n)) ≡ o → WorldEnds P (after_look w n from o)
    unfolding after_look commit messages_in
    looked-ends n from None e = is
    looked-ends n from (Some m) e = world-mail _ _ (mails.Hand m)
        (world-node w n _ is (ends-same P (node_at w n) _ refl refl refl (is.node n)))
        (full-ends (mail_at w (way w from n)) m (is.mail _) e, tt)

    posted-ends : (n to : ℕ) (o : Option Message) → first_of (outbox (node_at w n) to) ≡ o → WorldEnds P (after_post w n to o)
    unfolding after_post commit messages_in
    posted-ends n to None e = is
    posted-ends n to (Some m) e = world-mail _ _ (mails.Full m)
        (world-node w n _ is (ends-box P (node_at w n) to _ (is.node n) (box-rest P _ ((is.node n).boxes to))))
        (first-ends (outbox (node_at w n) to) m ((is.node n).boxes to) e, tt)

    router-ends : (n s : ℕ) (act : RouterAct) (o : Option Router) → router_in (node_at w n) s ≡ o → WorldEnds P (after_router_act w n s act o)
    unfolding after_router_act commit on_router
    router-ends n s act None e = is
    router-ends n s act (Some r) e = world-node (touch w r act) n _ (touch-ends w r act is) (go (router_in (node_at w n) s) refl)
      where
        go : (o : Option Router) → router_in (node_at w n) s ≡ o →
            NodeEnds P (on_router (node_at w n) o (commit_router (node_at w n) s act (answer_of w r act)))
        go None f = is.node n
        go (Some q) f = let q_is = (is.node n).router s q f in
            act-ends P (node_at w n) s act (answer_of w r act) q (ends-without P (node_at w n) s (is.node n))
            (λ stays. apply-ends P q act (answer_of w r act) q_is (answer-ends w r act new)) (output-ends P q act q_is.1.1)

    -- an act that may be taken
    pub acted-ends : (n : ℕ) (act : Act) → n < w.count → can_take w n act ≡ true → WorldEnds P (after_act w n act)
    unfolding after_act commit post_of router_at
    acted-ends n (Hand from) ln can = handed-ends n from ln can (hand_message (mail_at w (way w from n))) refl
    acted-ends n (Look from) ln can = looked-ends n from (full_message (mail_at w (way w from n))) refl
    acted-ends n (Post to) ln can = posted-ends n to (first_of (outbox (node_at w n) to)) refl
    acted-ends n (Close e) ln can = world-node w n _ is (close-ends P _ e (ends-same P (node_at w n) _ refl refl refl (is.node n)))
    acted-ends n (OfRouter s act) ln can = router-ends n s act (router_in (node_at w n) s) refl
    acted-ends n Idle ln can = is

    unless-ends : (o : Option Refusal) (done : Effect) → WorldEnds P done.world → WorldEnds P (unless w o done).world
    unfolding unless
    unless-ends None done h = h
    unless-ends (Some why) done h = is

    at_node-ends : (n : ℕ) (done : Effect) → (n < w.count → WorldEnds P done.world) → WorldEnds P (at_node w n done).world
    at_node-ends n done h = go (nat_lt n w.count) refl
      where
        go : (c : Bool) → nat_lt n w.count ≡ c → WorldEnds P (if c then done else refuse w refusals.Stranger).world
        go true e = h (grind (arith, e, nat_tests))
        go false e = is

    open_with-ends : (counted : World) (n i : ℕ) → WorldEnds P counted → ((s : Side) → P i s) → WorldEnds P (open_with w counted n i).world
    open_with-ends counted n i c these = unless-ends (serials_refusal (node_at w n)) _
        (world-word _ i _ (world-node counted n _ c (open-ends P (node_at w n) i (is.node n) these)))

    open_on-ends : (n : ℕ) (o : Option ℕ) → (node_at w n).opening ≡ o → WorldEnds P (open_on w n o).world
    unfolding open_on
    open_on-ends n (Some i) e = open_with-ends w n i is (subst (SpareEnds P) e (is.node n).opening)
    open_on-ends n None e = go (has_unclaimed_word w)
      where
        go : (c : Bool) → WorldEnds P (if c then open_with w (set_claimed w (w.claimed + 1)) n w.claimed else refuse w refusals.NoWord).world
        go true = open_with-ends (set_claimed w (w.claimed + 1)) n w.claimed (world-claimed w (w.claimed + 1) is) new
        go false = is

    -- the first half of an open
    pub claim_for_open-ends : (n : ℕ) → WorldEnds P (claim_for_open w n)
    claim_for_open-ends n = let x = is.node n in
        world-claimed _ (w.claimed + 1) (world-node w n _ is (record { router = x.router; opening = new; boxes = x.boxes }))

    given-ends : (v : World) (done : Effect) (reply : Reply) → WorldEnds P done.world → GivesOrNoMemory w done reply v → WorldEnds P v
    given-ends v done reply h (inl e) = subst (WorldEnds P) (sym e.1) h
    given-ends v done reply h (inr (fine, (e, f))) = subst (WorldEnds P) (sym f) is

    -- any step
    pub step-ends : (v : World) (step : Step) (reply : Reply) → StepAny w step reply v → WorldEnds P v
    step-ends v (steps.Open n) reply h = given-ends v (open_step w n) reply
        (at_node-ends n _ (λ l. open_on-ends n (node_at w n).opening refl)) h
    step-ends v (steps.Put n at bytes ends) reply (inr (l, (e, f))) = subst (WorldEnds P) (sym f) is
    step-ends v (steps.Put n at bytes ends) reply (inl h) = subst (WorldEnds P) (sym h.1)
        (at_node-ends n _ (λ l. unless-ends (put_refusal Printed (node_at w n) at bytes ends) _
        (world-node w n _ is (put-ends P (node_at w n) at (record { bytes = bytes; ends = ends }) (is.node n)))))
    step-ends v (steps.PutWide n at bytes ends) reply (inr (l, (e, f))) = subst (WorldEnds P) (sym f) is
    step-ends v (steps.PutWide n at bytes ends) reply (inl h) = subst (WorldEnds P) (sym h.1)
        (at_node-ends n _ (λ l. unless-ends (put_refusal Wide (node_at w n) at bytes ends) _
        (world-node w n _ is (put-ends P (node_at w n) at (record { bytes = bytes; ends = ends }) (is.node n)))))
    step-ends v (steps.Get n at) reply h = subst (WorldEnds P) (sym h.1)
        (at_node-ends n _ (λ l. unless-ends (get_refusal (node_at w n) at) _ (world-node w n _ is (get-ends P (node_at w n) at (is.node n)))))
    step-ends v (steps.Close n at) reply h = given-ends v (close_step w n at) reply
        (at_node-ends n _ (λ l. unless-ends (close_refusal (node_at w n) at) _
        (world-node w n _ is (close_node-ends P (node_at w n) at (is.node n))))) h
    step-ends v (steps.Turn n) reply (act, may, inr (grows, own, fine, (e, f))) = subst (WorldEnds P) (sym f) is
    step-ends v (steps.Turn n) reply (act, may, inl (e, f)) = subst (WorldEnds P) (sym f)
        (at_node-ends n _ (λ l. unless-ends (if turn_lacks_serials w n act then Some refusals.NumbersEnd else None) _
        (acted-ends n act l (may l))))
