-- Words of which no end is held are read and written by no step, whatever they say.
use Rattle.std.specs.Prelude.{◌≡◌, ◌≤◌, ◌<◌, ℕ, ◌+◌, Bool, true, false, cond, nat_eq, nat_lt, if◌then◌else◌, Option, Some, None, List, refl}
use Rattle.std.proofs.Common.{arith, sym, ◌∙◌, ap, subst, inl, inr}
use Rattle.std.proofs.lemmas.Bool.{or_left}
use Rattle.std.proofs.lemmas.Bool.Decides.{nat_tests}
use Rattle.ipcz_base.proofs.Indexed.{place_at-put_place}
use Rattle.ipcz_world.proofs.Vocabulary.{LinkId, Central, Peripheral, LinkEnd, Message, Router, RouterAct, Act, Close, Hand, Node, Word, Refusal}
use Rattle.ipcz_world.proofs.Vocabulary.{primary_word, word_of, has_link, put_place, empty_word, open_word, World, Key, way, node_at, word_at}
use Rattle.ipcz_world.proofs.Vocabulary.{mail_at, router_at, set_node, set_word, set_claimed, set_mail, answer_of, after_act, can_take, hand_message}
use Rattle.ipcz_world.proofs.Vocabulary.{unless, Books, Reply, commit, Printed, Wide, source_of, Look, Post, Idle, post_of, open_node}
use Rattle.ipcz_world.proofs.Vocabulary.{serials_refusal, put_refusal, get_refusal, close_refusal, deliver, Mail, Step, has_unclaimed_word}
use Rattle.ipcz_world.proofs.Vocabulary.{link_answer, word_answer, touch, touch_word, source_for, after_hand, after_look, after_post}
use Rattle.ipcz_world.proofs.Vocabulary.{after_router_act, full_message, router_of, next_at, turn_event, router_seen, turn_lacks_serials, Effect}
use Rattle.ipcz_world.proofs.Vocabulary.{GivesOrNoMemory, refuse, at_node, open_with, open_on, open_step, close_step, turn_step, StepAny, Routes}
use Rattle.ipcz_world.proofs.Vocabulary.{Lawful}
use Rattle.ipcz_base.specs.declared.refusal.Refusal.TheVariants as refusals
use Rattle.ipcz_base.specs.declared.message.Message.TheVariants as messages
use Rattle.ipcz_router.specs.declared.act.RouterAct.TheVariants as acts
use Rattle.ipcz_router.specs.declared.act.Answer.TheVariants as answers
use Rattle.ipcz_node.specs.declared.act.Act.TheVariants.{Router as OfRouter}
use Rattle.ipcz_world.specs.declared.mail.Mail.TheVariants as mails
use Rattle.ipcz_world.specs.declared.step.Step.TheVariants as steps
use Rattle.ipcz_world.specs.declared.step.Reply.TheVariants as replies
use Rattle.ipcz_world.specs.WordAnswers.{word_after}
use Rattle.ipcz_world.specs.Turns.{hand_seen, hand_lacks_serials, turn_grows, hand_grows}
use Rattle.ipcz_world.specs.Steps.{AnyAct, is_refused}
use Rattle.ipcz_world.specs.HeldEnds.{ByRouter, with_words, IsLive, AgreesOnLive, DeadWordsDoNotMatter}
use Rattle.ipcz_world.proofs.facts.Tests.{and_first}
use Rattle.ipcz_world.proofs.facts.Lengths.{has_link-some}
use Rattle.ipcz_world.proofs.runs.HeldSteps.{hand-is}
use Rattle.ipcz_world.proofs.lawful.LettingGo.{held_were_held, accepted_are_held}
use Rattle.ipcz_world.proofs.facts.Claimed.{claimed-after_act}

module _ (P : ℕ → Type 0) where
  -- the same of each word of some kind
  abbrev pub Agree : World → List Word → Type 0
  Agree w ws = (i : ℕ) → P i → word_at (with_words w ws) i ≡ word_at w i

  -- a world that differs from another in words alone, and not in those of this kind
  pub record Alike (u u' : World) : Type 0 where
    pub words : List Word
    pub is : u' ≡ with_words u words
    pub agree : Agree u words

  alike-node : (u u' : World) (n : ℕ) (x : Node) → Alike u u' → Alike (set_node u n x) (set_node u' n x)
  unfolding set_node word_at
  alike-node u u' n x a = record { words = a.words; is = ap (λ z. set_node z n x) a.is; agree = a.agree }

  alike-mail : (u u' : World) (k : ℕ) (x : Mail) → Alike u u' → Alike (set_mail u k x) (set_mail u' k x)
  unfolding set_mail word_at
  alike-mail u u' k x a = record { words = a.words; is = ap (λ z. set_mail z k x) a.is; agree = a.agree }

  alike-claimed : (u u' : World) (c : ℕ) → Alike u u' → Alike (set_claimed u c) (set_claimed u' c)
  unfolding set_claimed word_at
  alike-claimed u u' c a = record { words = a.words; is = ap (λ z. set_claimed z c) a.is; agree = a.agree }

  alike-word : (u u' : World) (i : ℕ) (x : Word) → Alike u u' → Alike (set_word u i x) (set_word u' i x)
  unfolding set_word word_at
  alike-word u u' i x a = record {
    words = put_place empty_word a.words i x;
    is = ap (λ z. set_word z i x) a.is;
    agree = λ j p. place_at-put_place empty_word a.words i x j ∙ (ap (cond (nat_eq j i) x) (a.agree j p) ∙ sym
        (place_at-put_place empty_word u.words i x j));
  }

  -- effects with the same reply and such worlds
  pub record SameEffect (done done' : Effect) : Type 0 where
    pub reply : done'.reply ≡ done.reply
    pub world : Alike done.world done'.world

  same-refuse : (w w' : World) (why : Refusal) → Alike w w' → SameEffect (refuse w why) (refuse w' why)
  same-refuse w w' why a = record { reply = refl; world = a }

  same-unless : (w w' : World) (o : Option Refusal) (done done' : Effect) → Alike w w' → SameEffect done done' →
      SameEffect (unless w o done) (unless w' o done')
  unfolding unless
  same-unless w w' None done done' a s = s
  same-unless w w' (Some why) done done' a s = same-refuse w w' why a

  -- so is what a step gives
  gives-same : (w w' u : World) (done done' : Effect) (reply : Reply) → Alike w w' → SameEffect done done' → GivesOrNoMemory w done reply u →
      (us : List Word) × GivesOrNoMemory w' done' reply (with_words u us) × Agree u us
  gives-same w w' u done done' reply a s (inl (e, f)) = (
    s.world.words,
    inl (e ∙ sym s.reply, ap (λ z. with_words z s.world.words) f ∙ sym s.world.is),
    subst (λ z. Agree z s.world.words) (sym f) s.world.agree,
  )
  gives-same w w' u done done' reply a s (inr (fine, (e, f))) = (
    a.words,
    inr (ap is_refused s.reply ∙ fine, (e, ap (λ z. with_words z a.words) f ∙ sym a.is)),
    subst (λ z. Agree z a.words) (sym f) a.agree,
  )

module _ (w : World) (b : Books) (g : Routes) (law : Lawful w b g) (ws : List Word) (agrees : AgreesOnLive w ws) where
  abbrev v : World
  v = with_words w ws

  abbrev Live : ℕ → Type 0
  Live i = IsLive w i

  start : Alike Live w v
  start = record { words = ws; is = refl; agree = agrees }

  -- the word of a router's link is held
  primary_live : (k : Key) (r : Router) (i : ℕ) → router_at w k ≡ Some r → primary_word r ≡ Some i → Live i
  unfolding word_of
  primary_live k r i here on = go r.outward.primary refl on
    where
      go : (o : Option LinkEnd) → r.outward.primary ≡ o → word_of o ≡ Some i → Live i
      go None e h = cc
      go (Some x) e h = by x.link refl h
        where
          by : (l : LinkId) → x.link ≡ l → word_of (Some (record x { link = l })) ≡ Some i → Live i
          by (Central j) is q = let same : j ≡ i = grind (arith, q) in
              inl (
                x.side,
                ByRouter k r here (or_left _ _ (or_left _ _ (or_left _ _
                    (ap (λ o. has_link o (Central i) x.side) e ∙ has_link-some x (Central i) x.side (is ∙ ap Central same) refl)))),
              )
          by (Peripheral n y) is q = cc

  answers_same : (k : Key) (r : Router) (act : RouterAct) → router_at w k ≡ Some r → answer_of v r act ≡ answer_of w r act
  unfolding answer_of link_answer
  answers_same k r acts.Claim here = refl
  answers_same k r other here = go (primary_word r) refl
    where
      go : (o : Option ℕ) → primary_word r ≡ o → link_answer v r.end.side (source_of r) other o ≡ link_answer w r.end.side (source_of r) other o
      go None e = refl
      go (Some i) e = ap (λ x. word_answer x r.end.side (source_of r) other) (agrees i (primary_live k r i here e))

  word_alike : (k : Key) (r : Router) (act : RouterAct) → router_at w k ≡ Some r →
      Alike Live (touch_word w r.end.side (source_of r) act (primary_word r)) (touch_word v r.end.side (source_of r) act (primary_word r))
  unfolding touch_word
  word_alike k r act here = go (primary_word r) refl
    where
      go : (o : Option ℕ) → primary_word r ≡ o → Alike Live (touch_word w r.end.side (source_of r) act o) (touch_word v r.end.side (source_of r) act o)
      go None e = start
      go (Some i) e = subst (λ x. Alike Live (set_word w i (word_after (word_at w i) r.end.side (source_of r) act))
          (set_word v i (word_after x r.end.side (source_of r) act))) (sym (agrees i (primary_live k r i here e)))
          (alike-word Live w v i (word_after (word_at w i) r.end.side (source_of r) act) start)

  touched_alike : (k : Key) (r : Router) (act : RouterAct) → router_at w k ≡ Some r → Alike Live (touch w r act) (touch v r act)
  unfolding touch
  touched_alike k r acts.Claim here = go (has_unclaimed_word w)
    where
      go : (c : Bool) → Alike Live (if c then set_claimed w (w.claimed + 1) else w) (if c then set_claimed v (w.claimed + 1) else v)
      go true = alike-claimed Live w v (w.claimed + 1) start
      go false = start
  touched_alike k r acts.Mark here = word_alike k r acts.Mark here
  touched_alike k r acts.Wake here = word_alike k r acts.Wake here
  touched_alike k r acts.Lock here = word_alike k r acts.Lock here
  touched_alike k r acts.Unlock here = word_alike k r acts.Unlock here
  touched_alike k r other here = start

  source_same : (n from : ℕ) (m : Message) → n < w.count → from < w.count → hand_message (mail_at w (way w from n)) ≡ Some m →
      source_for v m ≡ source_for w m
  unfolding source_for
  source_same n from (messages.AcceptBypass old side fresh len) ln lf h = ap (λ (x : Word). if nat_lt old w.claimed then x.source else None)
      (agrees old (inl (side, accepted_are_held w b g n from old side fresh len law ln lf h)))
  source_same n from other ln lf h = refl

  sender : (n from : ℕ) → n < w.count → can_take w n (Hand from) ≡ true → from < w.count
  unfolding can_take
  sender n from ln can = law.inv.counts.hand_from n from ln (hand-is (node_at w n).hand from (and_first _ _ can))

  -- an act that may be taken
  record SameAct (n : ℕ) (act : Act) : Type 0 where
    pub world : Alike Live (after_act w n act) (after_act v n act)
    pub event : turn_event v n act ≡ turn_event w n act
    pub lacks : turn_lacks_serials v n act ≡ turn_lacks_serials w n act
    pub grows : turn_grows v n act ≡ turn_grows w n act

  handed_alike : (n from : ℕ) (o : Option Message) → n < w.count → from < w.count → hand_message (mail_at w (way w from n)) ≡ o →
      Alike Live (after_hand w n from o) (after_hand v n from o) × ((hand_seen v n from o ≡ hand_seen w n from o) ×
      ((hand_lacks_serials v n from o ≡ hand_lacks_serials w n from o) × (hand_grows v n from o ≡ hand_grows w n from o)))
  unfolding after_hand hand_seen hand_lacks_serials hand_grows node_at
  handed_alike n from None ln lf h = (start, (refl, (refl, refl)))
  handed_alike n from (Some m) ln lf h = let same = source_same n from m ln lf h in rw same (
    alike-mail Live _ _ (way w from n) mails.Empty (alike-node Live w v n (deliver (node_at w n) from m (source_for w m)) start),
    (refl, (refl, refl)),
  )

  looked_alike : (n from : ℕ) (o : Option Message) → Alike Live (after_look w n from o) (after_look v n from o)
  unfolding after_look node_at
  looked_alike n from None = start
  looked_alike n from (Some m) = alike-mail Live _ _ (way w from n) (mails.Hand m)
      (alike-node Live w v n (commit (node_at w n) (Look from) answers.Plain) start)

  posted_alike : (n to : ℕ) (o : Option Message) → Alike Live (after_post w n to o) (after_post v n to o)
  unfolding after_post node_at
  posted_alike n to None = start
  posted_alike n to (Some m) = alike-mail Live _ _ (way w n to) (mails.Full m)
      (alike-node Live w v n (commit (node_at w n) (Post to) answers.Plain) start)

  routed_alike : (n s : ℕ) (act : RouterAct) (o : Option Router) → router_at w (record { node = n; serial = s }) ≡ o →
      Alike Live (after_router_act w n s act o) (after_router_act v n s act o) × (router_seen v n s act o ≡ router_seen w n s act o)
  unfolding after_router_act router_seen node_at
  routed_alike n s act None here = (start, refl)
  routed_alike n s act (Some r) here = let same = answers_same (record { node = n; serial = s }) r act here in rw same (
    alike-node Live (touch w r act) (touch v r act) n (commit (node_at w n) (OfRouter s act) (answer_of w r act))
        (touched_alike (record { node = n; serial = s }) r act here),
    refl,
  )

  acted_alike : (n : ℕ) (act : Act) → n < w.count → can_take w n act ≡ true → SameAct n act
  unfolding after_act turn_event turn_lacks_serials turn_grows node_at mail_at router_at
  acted_alike n (Hand from) ln can = let t = handed_alike n from (hand_message (mail_at w (way w from n))) ln (sender n from ln can) refl in
      record { world = t.0; event = t.1.0; lacks = t.1.1.0; grows = t.1.1.1 }
  acted_alike n (Look from) ln can = record { world = looked_alike n from (full_message (mail_at w (way w from n))); event = refl; lacks = refl; grows = refl }
  acted_alike n (Post to) ln can = record { world = posted_alike n to (post_of (node_at w n) (Post to)); event = refl; lacks = refl; grows = refl }
  acted_alike n (Close e) ln can = record { world = alike-node Live w v n (commit (node_at w n) (Close e) answers.Plain) start; event = refl; lacks = refl; grows = refl }
  acted_alike n (OfRouter s act) ln can = let t = routed_alike n s act (router_of w n s) refl in
      record { world = t.0; event = t.1; lacks = refl; grows = refl }
  acted_alike n Idle ln can = record { world = start; event = refl; lacks = refl; grows = refl }

  at_alike : (n : ℕ) (done done' : Effect) → (n < w.count → SameEffect Live done done') → SameEffect Live (at_node w n done) (at_node v n done')
  at_alike n done done' h = go (nat_lt n w.count) refl
    where
      go : (c : Bool) → nat_lt n w.count ≡ c →
          SameEffect Live (if c then done else refuse w refusals.Stranger) (if c then done' else refuse v refusals.Stranger)
      go true e = h (grind (arith, e, nat_tests))
      go false e = same-refuse Live w v refusals.Stranger start

  opened_alike : (counted counted' : World) (n i : ℕ) → Alike Live counted counted' →
      SameEffect Live (open_with w counted n i) (open_with v counted' n i)
  unfolding node_at
  opened_alike counted counted' n i c = same-unless Live w v (serials_refusal (node_at w n)) _ _ start (record {
    reply = refl;
    world = alike-word Live _ _ i open_word (alike-node Live counted counted' n (open_node (node_at w n) i) c);
  })

  open_alike : (n : ℕ) (o : Option ℕ) → SameEffect Live (open_on w n o) (open_on v n o)
  unfolding open_on
  open_alike n (Some i) = opened_alike w v n i start
  open_alike n None = go (has_unclaimed_word w)
    where
      go : (c : Bool) → SameEffect Live (if c then open_with w (set_claimed w (w.claimed + 1)) n w.claimed else refuse w refusals.NoWord)
          (if c then open_with v (set_claimed v (w.claimed + 1)) n w.claimed else refuse v refusals.NoWord)
      go true = opened_alike (set_claimed w (w.claimed + 1)) (set_claimed v (w.claimed + 1)) n w.claimed (alike-claimed Live w v (w.claimed + 1) start)
      go false = same-refuse Live w v refusals.NoWord start

  noded_alike : (n : ℕ) (o : Option Refusal) (reply : Reply) (x : Node) →
      SameEffect Live (unless w o (record { reply = reply; world = set_node w n x })) (unless v o (record { reply = reply; world = set_node v n x }))
  noded_alike n o reply x = same-unless Live w v o _ _ start (record { reply = refl; world = alike-node Live w v n x start })

  -- no step takes a claim back
  claimed-unless : (o : Option Refusal) (done : Effect) → w.claimed ≤ done.world.claimed → w.claimed ≤ (unless w o done).world.claimed
  unfolding unless
  claimed-unless None done h = h
  claimed-unless (Some why) done h = omega arith

  claimed-at : (n : ℕ) (done : Effect) → (n < w.count → w.claimed ≤ done.world.claimed) → w.claimed ≤ (at_node w n done).world.claimed
  claimed-at n done h = go (nat_lt n w.count) refl
    where
      go : (c : Bool) → nat_lt n w.count ≡ c → w.claimed ≤ (if c then done else refuse w refusals.Stranger).world.claimed
      go true e = h (grind (arith, e, nat_tests))
      go false e = omega arith

  claimed-open : (n : ℕ) (o : Option ℕ) → w.claimed ≤ (open_on w n o).world.claimed
  unfolding open_on set_word set_node set_claimed
  claimed-open n (Some i) = claimed-unless (serials_refusal (node_at w n)) _ (omega arith)
  claimed-open n None = go (has_unclaimed_word w)
    where
      go : (c : Bool) → w.claimed ≤ (if c then open_with w (set_claimed w (w.claimed + 1)) n w.claimed else refuse w refusals.NoWord).world.claimed
      go true = claimed-unless (serials_refusal (node_at w n)) _ (omega arith)
      go false = omega arith

  claimed-node : (n : ℕ) (o : Option Refusal) (reply : Reply) (x : Node) →
      w.claimed ≤ (unless w o (record { reply = reply; world = set_node w n x })).world.claimed
  unfolding set_node
  claimed-node n o reply x = claimed-unless o _ (omega arith)

  claimed-given : (u : World) (done : Effect) (reply : Reply) → w.claimed ≤ done.world.claimed → GivesOrNoMemory w done reply u → w.claimed ≤ u.claimed
  claimed-given u done reply l (inl (e, f)) = subst (λ (z : World). w.claimed ≤ z.claimed) (sym f) l
  claimed-given u done reply l (inr (fine, (e, f))) = subst (λ (z : World). w.claimed ≤ z.claimed) (sym f) (omega arith)

  claimed-step : (u : World) (step : Step) (reply : Reply) → StepAny w step reply u → w.claimed ≤ u.claimed
  claimed-step u (steps.Open n) reply h = claimed-given u (open_step w n) reply (claimed-at n _ (λ l. claimed-open n (node_at w n).opening)) h
  claimed-step u (steps.Put n at bytes ends) reply (inl h) = subst (λ (z : World). w.claimed ≤ z.claimed) (sym h.1)
      (claimed-at n _ (λ l. claimed-node n _ _ _))
  claimed-step u (steps.Put n at bytes ends) reply (inr (l, (e, f))) = subst (λ (z : World). w.claimed ≤ z.claimed) (sym f) (omega arith)
  claimed-step u (steps.PutWide n at bytes ends) reply (inl h) = subst (λ (z : World). w.claimed ≤ z.claimed) (sym h.1)
      (claimed-at n _ (λ l. claimed-node n _ _ _))
  claimed-step u (steps.PutWide n at bytes ends) reply (inr (l, (e, f))) = subst (λ (z : World). w.claimed ≤ z.claimed) (sym f) (omega arith)
  claimed-step u (steps.Get n at) reply h = subst (λ (z : World). w.claimed ≤ z.claimed) (sym h.1) (claimed-at n _ (λ l. claimed-node n _ _ _))
  claimed-step u (steps.Close n at) reply h = claimed-given u (close_step w n at) reply (claimed-at n _ (λ l. claimed-node n _ _ _)) h
  claimed-step u (steps.Turn n) reply (act, may, inl (e, f)) = subst (λ (z : World). w.claimed ≤ z.claimed) (sym f)
      (claimed-at n _ (λ l. claimed-unless (if turn_lacks_serials w n act then Some refusals.NumbersEnd else None) _ (claimed-after_act w n act)))
  claimed-step u (steps.Turn n) reply (act, may, inr (grows, own, fine, (e, f))) = subst (λ (z : World). w.claimed ≤ z.claimed) (sym f) (omega arith)

  -- what is live after a step was live
  later : (u : World) (step : Step) (reply : Reply) → StepAny w step reply u → w.claimed ≤ u.claimed → (us : List Word) → Agree Live u us →
      AgreesOnLive u us
  later u step reply h up us a i (inl (s, held)) = a i (elim (held_were_held w u b g step reply i s law h held) [
    | inl e ↦ inl (s, e)
    | inr l ↦ inr l
  ])
  later u step reply h up us a i (inr l) = a i (inr (omega (arith, l, up)))

  -- the steps with other words
  may_too : (n : ℕ) (act : Act) → AnyAct w n act → AnyAct v n act
  unfolding can_take next_at node_at mail_at router_at
  may_too n act may = may

  turned_alike : (n : ℕ) (act : Act) → AnyAct w n act → SameEffect Live (turn_step w n act) (turn_step v n act)
  turned_alike n act may = at_alike n _ _ (λ l. let s = acted_alike n act l (may l) in
      subst (λ c. SameEffect Live (unless w (if turn_lacks_serials w n act then Some refusals.NumbersEnd else None)
      (record { reply = replies.Turned (turn_event w n act); world = after_act w n act }))
      (unless v (if c then Some refusals.NumbersEnd else None) (record { reply = replies.Turned (turn_event v n act); world = after_act v n act })))
      (sym s.lacks) (same-unless Live w v (if turn_lacks_serials w n act then Some refusals.NumbersEnd else None) _ _ start
      (record { reply = ap replies.Turned s.event; world = s.world })))

  pub stepped_alike : (u : World) (step : Step) (reply : Reply) → StepAny w step reply u →
      (us : List Word) × StepAny v step reply (with_words u us) × Agree Live u us
  unfolding node_at is_refused
  stepped_alike u (steps.Open n) reply h = gives-same Live w v u (open_step w n) (open_step v n) reply start
      (at_alike n _ _ (λ l. open_alike n (node_at w n).opening)) h
  stepped_alike u (steps.Put n at bytes ends) reply (inl (e, f)) =
      let s = at_alike n _ _ (λ l. noded_alike n (put_refusal Printed (node_at w n) at bytes ends) _ _) in (
        s.world.words,
        inl (e ∙ sym s.reply, ap (λ z. with_words z s.world.words) f ∙ sym s.world.is),
        subst (λ z. Agree Live z s.world.words) (sym f) s.world.agree,
      )
  stepped_alike u (steps.Put n at bytes ends) reply (inr (l, (e, f))) =
      (ws, inr (l, (e, ap (λ z. with_words z ws) f)), subst (λ z. Agree Live z ws) (sym f) agrees)
  stepped_alike u (steps.PutWide n at bytes ends) reply (inl (e, f)) =
      let s = at_alike n _ _ (λ l. noded_alike n (put_refusal Wide (node_at w n) at bytes ends) _ _) in (
        s.world.words,
        inl (e ∙ sym s.reply, ap (λ z. with_words z s.world.words) f ∙ sym s.world.is),
        subst (λ z. Agree Live z s.world.words) (sym f) s.world.agree,
      )
  stepped_alike u (steps.PutWide n at bytes ends) reply (inr (l, (e, f))) =
      (ws, inr (l, (e, ap (λ z. with_words z ws) f)), subst (λ z. Agree Live z ws) (sym f) agrees)
  stepped_alike u (steps.Get n at) reply (e, f) =
      let s = at_alike n _ _ (λ l. noded_alike n (get_refusal (node_at w n) at) _ _) in (
        s.world.words,
        (e ∙ sym s.reply, ap (λ z. with_words z s.world.words) f ∙ sym s.world.is),
        subst (λ z. Agree Live z s.world.words) (sym f) s.world.agree,
      )
  stepped_alike u (steps.Close n at) reply h = gives-same Live w v u (close_step w n at) (close_step v n at) reply start
      (at_alike n _ _ (λ l. noded_alike n (close_refusal (node_at w n) at) _ _)) h
  stepped_alike u (steps.Turn n) reply (act, may, inl (e, f)) = let s = turned_alike n act may in (
    s.world.words,
    (act, may_too n act may, inl (e ∙ sym s.reply, ap (λ z. with_words z s.world.words) f ∙ sym s.world.is)),
    subst (λ z. Agree Live z s.world.words) (sym f) s.world.agree,
  )
  stepped_alike u (steps.Turn n) reply (act, may, inr (grows, own, fine, (e, f))) = go (nat_lt n w.count) refl
    where
      refused : (c : Bool) (done : Effect) → c ≡ false → is_refused (if c then done else refuse w refusals.Stranger).reply ≡ false → ⊥
      refused true done p q = cc
      refused false done p q = cc

      go : (c : Bool) → nat_lt n w.count ≡ c → (us : List Word) × StepAny v (steps.Turn n) reply (with_words u us) × Agree Live u us
      go true l = let s = acted_alike n act (grind (arith, l, nat_tests)) (may (grind (arith, l, nat_tests))) in (
        ws,
        (act, may_too n act may, inr (s.grows ∙ grows, own, ap is_refused (turned_alike n act may).reply ∙ fine, (e, ap (λ z. with_words z ws) f))),
        subst (λ z. Agree Live z ws) (sym f) agrees,
      )
      go false l = absurd (refused (nat_lt n w.count) _ l fine)

pub dead_words_do_not_matter : DeadWordsDoNotMatter
dead_words_do_not_matter w u ws b g step reply law agrees h =
    let t = stepped_alike w b g law ws agrees u step reply h in
    (t.0, t.1, later w b g law ws agrees u step reply h (claimed-step w b g law ws agrees u step reply h) t.0 t.2)
