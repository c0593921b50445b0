-- What turns answer of a message in hand: it fitted, or it was a Flush.
use Rattle.ipcz_world.proofs.Vocabulary.{End, LinkId, Message, Router, RouterAct, Act, Hand, Close, Reply, Node, World, node_at, router_at, can_take}
use Rattle.ipcz_world.proofs.Vocabulary.{answer_of, output_of, Books, has_gone_next, Answer, Applied, Look, Post, Idle, Happened, is_hand_of}
use Rattle.ipcz_world.proofs.Vocabulary.{event_of, Step, turn_event, router_seen, StepAny, advance, Routes, Lawful}
use Rattle.std.specs.Prelude.{◌≡◌, ◌<◌, ℕ, Bool, true, false, Option, Some, None, List, refl}
use Rattle.std.proofs.Common.{arith, ap, subst, ◌∙◌, sym, inl, inr}
use Rattle.std.proofs.lemmas.Bool.Decides.{nat_tests}
use Rattle.ipcz_base.specs.declared.message.Message.TheVariants as messages
use Rattle.ipcz_router.specs.declared.act.RouterAct.TheVariants as acts
use Rattle.ipcz_router.specs.declared.act.Answer.TheVariants as answers
use Rattle.ipcz_router.specs.declared.act.Applied.TheVariants as outputs
use Rattle.ipcz_node.specs.declared.act.Act.TheVariants.{Router as OfRouter}
use Rattle.ipcz_node.specs.declared.happened.Handed.{Handed}
use Rattle.ipcz_node.specs.declared.happened.Handed.TheVariants.{Flush}
use Rattle.ipcz_node.specs.declared.happened.Happened.TheVariants as events
use Rattle.ipcz_node.specs.Events.{kind_of, hand_event, send_event, word_event, unlock_event, router_event, link_of}
use Rattle.ipcz_world.specs.declared.step.Step.TheVariants as steps
use Rattle.ipcz_world.specs.declared.step.Reply.TheVariants as replies
use Rattle.ipcz_world.specs.Turns.{message_in_hand, hand_seen}
use Rattle.ipcz_world.specs.Plain.{Plain}
use Rattle.ipcz_world.specs.Laws.{is_flush}
use Rattle.ipcz_world.specs.WorldLaws.{HandsFit, RepliesPlainly, OnlyFlushesStray, RepliesStrayNothing}
use Rattle.ipcz_world.proofs.facts.Tests.{and_first}
use Rattle.ipcz_world.proofs.acts.Seeing.{seen_event}
use Rattle.ipcz_world.proofs.runs.Running.{turn_reply}

-- whether a message in hand is seen to be handled, of which kind it is said to be, and whether it is said not to fit
unfoldable is_hand : Happened → Bool
is_hand (events.Hand kind link unfit) = true
is_hand other = false

unfoldable kind_said : Happened → Handed
kind_said (events.Hand kind link unfit) = kind
kind_said other = Flush

unfoldable unfit_said : Happened → Bool
unfit_said (events.Hand kind link unfit) = unfit
unfit_said other = false

-- what a reply says was seen
unfoldable event_said : Reply → Happened
event_said (replies.Turned event) = event
event_said other = events.Idle

hand-send : (n : Node) (event : ℕ → LinkId → List End → Happened) (a : Applied) →
    ((number : ℕ) (link : LinkId) (ends : List End) → is_hand (event number link ends) ≡ false) → is_hand (send_event n event a) ≡ false
unfolding send_event is_hand
hand-send n event (outputs.Sent link number item) h = h number link.link _
hand-send n event other h = refl

hand-word : (serial : ℕ) (link : LinkId) (a : Answer) → is_hand (word_event serial link a) ≡ false
unfolding word_event is_hand
hand-word serial link answers.Plain = refl
hand-word serial link other = refl

hand-unlock : (serial : ℕ) (link : LinkId) (a : Answer) → is_hand (unlock_event serial link a) ≡ false
unfolding unlock_event is_hand
hand-unlock serial link answers.Plain = refl
hand-unlock serial link other = refl

-- an act of a router isn't seen as one
hand-router : (n : Node) (s : ℕ) (r : Router) (act : RouterAct) (a : Answer) → is_hand (router_event n s r act a) ≡ false
unfolding router_event is_hand
hand-router n s r acts.SendOut a = hand-send n _ (output_of r acts.SendOut) (λ m l e. refl)
hand-router n s r acts.SendIn a = hand-send n _ (output_of r acts.SendIn) (λ m l e. refl)
hand-router n s r acts.Discard a = go (has_gone_next r) refl
  where
    go : (c : Bool) → has_gone_next r ≡ c → is_hand (router_event n s r acts.Discard a) ≡ false
    go true e = rw e refl
    go false e = rw e refl
hand-router n s r acts.Mark a = hand-word s (link_of r.outward.primary) a
hand-router n s r acts.Wake a = hand-word s (link_of r.outward.primary) a
hand-router n s r acts.Claim a = hand-word s (link_of r.outward.primary) a
hand-router n s r acts.Lock a = hand-word s (link_of r.outward.primary) a
hand-router n s r acts.Unlock a = hand-unlock s (link_of r.outward.primary) a
hand-router n s r other a = refl

hand-is : (o : Option ℕ) (from : ℕ) → is_hand_of o from ≡ true → o ≡ Some from
unfolding is_hand_of
hand-is None from f = cc
hand-is (Some s) from f = let same : s ≡ from = grind (arith, f, nat_tests) in ap Some same

kind-flush : (m : Message) → is_flush m ≡ true → kind_of m ≡ Flush
unfolding is_flush kind_of
kind-flush (messages.Flush link s) f = refl
kind-flush other f = cc

module _ (fit : HandsFit) (w : World) (b : Books) (g : Routes) (law : Lawful w b g) where
  -- a message in hand that is said not to fit
  hand_seen-fits : (n from : ℕ) (kind : Handed) (link : LinkId) → n < w.count → (node_at w n).hand ≡ Some from → (o : Option Message) →
      message_in_hand w n from ≡ o → hand_seen w n from o ≡ events.Hand kind link true → kind ≡ Flush
  unfolding hand_seen hand_event kind_said unfit_said
  hand_seen-fits n from kind link l hand None here f = cc
  hand_seen-fits n from kind link l hand (Some m) here f =
      sym (ap kind_said f) ∙ kind-flush m (fit w b g n from m law l hand here (ap unfit_said f))

  seen_fits : (n : ℕ) (act : Act) (kind : Handed) (link : LinkId) → n < w.count → can_take w n act ≡ true →
      turn_event w n act ≡ events.Hand kind link true → kind ≡ Flush
  unfolding can_take turn_event event_of is_hand router_seen
  seen_fits n (Hand from) kind link l can e =
      hand_seen-fits n from kind link l (hand-is (node_at w n).hand from (and_first _ _ can)) (message_in_hand w n from) refl e
  seen_fits n (Look from) kind link l can e = cc
  seen_fits n (Post to) kind link l can e = cc
  seen_fits n (Close end) kind link l can e = cc
  seen_fits n Idle kind link l can e = cc
  seen_fits n (OfRouter s a) kind link l can e = go (router_at w (record { node = n; serial = s })) refl
    where
      go : (o : Option Router) → router_at w (record { node = n; serial = s }) ≡ o → kind ≡ Flush
      go None q = let no : false ≡ true = none q ∙ ap is_hand e in cc
        where
          none : router_at w (record { node = n; serial = s }) ≡ None → false ≡ is_hand (turn_event w n (OfRouter s a))
          none q = rw q refl
      go (Some r) q =
          let no : false ≡ true = sym (hand-router (node_at w n) s r a (answer_of w r a)) ∙ sym (ap is_hand (seen_event w n s a r q)) ∙
          ap is_hand e in cc

  replied : (v : World) (step : Step) (reply : Reply) → Plain b step reply (advance w b step reply) → StepAny w step reply v →
      OnlyFlushesStray reply
  unfolding event_said
  replied v (steps.Open n) reply plain s kind link f =
      absurd (subst (λ r. Plain b (steps.Open n) r (advance w b (steps.Open n) r)) f plain)
  replied v (steps.Put n at bytes ends) reply plain s kind link f =
      absurd (subst (λ r. Plain b (steps.Put n at bytes ends) r (advance w b (steps.Put n at bytes ends) r)) f plain)
  replied v (steps.PutWide n at bytes ends) reply plain s kind link f =
      absurd (subst (λ r. Plain b (steps.PutWide n at bytes ends) r (advance w b (steps.PutWide n at bytes ends) r)) f plain)
  replied v (steps.Get n at) reply plain s kind link f =
      absurd (subst (λ r. Plain b (steps.Get n at) r (advance w b (steps.Get n at) r)) f plain)
  replied v (steps.Close n at) reply plain s kind link f =
      absurd (subst (λ r. Plain b (steps.Close n at) r (advance w b (steps.Close n at) r)) f plain)
  replied v (steps.Turn n) reply plain (act, may, inr (grows, own, fine, (p, q))) kind link f = absurd (grind (arith, p, f))
  replied v (steps.Turn n) reply plain (act, may, inl (p, q)) kind link f = elim (turn_reply w n act) [
    | inr t ↦ absurd (grind (arith, t.1, p, f))
    | inl t ↦
        let event : turn_event w n act ≡ events.Hand kind link true = ap event_said (sym t.0 ∙ sym p ∙ f) in
        let l : n < w.count = grind (arith, t.3, nat_tests) in
        seen_fits n act kind link l (may l) event
  ]

-- no reply to a step from a lawful world says that a message but a Flush didn't fit
pub replies_stray_nothing : HandsFit → RepliesPlainly → RepliesStrayNothing
replies_stray_nothing fit plain w v b g step reply law s = replied fit w b g law v step reply (plain w v b g step reply law s) s
