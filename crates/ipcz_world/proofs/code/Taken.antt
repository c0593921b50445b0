-- What the parts of a world come to after a turn, as the world that the turn leads to.
use Rattle.std.specs.Prelude.{◌≡◌, ◌<◌, ℕ, true, false, ◌&&◌, nat_lt, if◌then◌else◌, Option, Some, None, is_some, is_none}
use Rattle.std.specs.Prelude.{IfSome, Ok, Err, List, [], ◌∷◌}
use Rattle.std.proofs.Common.{arith, ap, sym, subst, refl, ◌∙◌}
use Rattle.std.proofs.lemmas.Bool.Decides.{nat_tests}
use Rattle.ipcz_world.proofs.Vocabulary.{End, Message, Refusal, place_at, put_place, Side, Router, primary_word, RouterAct, Act, Close, Node}
use Rattle.ipcz_world.proofs.Vocabulary.{bare_node, router_in, commit, Empty, World, node_at, mail_at, way, router_at, set_node, set_mail}
use Rattle.ipcz_world.proofs.Vocabulary.{hand_message, after_act, can_take, answer_of, may_take, Answer, Plain, Look, Post, Idle, Happened}
use Rattle.ipcz_world.proofs.Vocabulary.{is_hand_of, deliver, source_of, has_mail_for, first_of, post_of, act_lacks_serials, event_of, Mail}
use Rattle.ipcz_world.proofs.Vocabulary.{after_hand, router_seen, after_router_act, may_act, is_full, is_clear, full_message, after_look, after_post}
use Rattle.ipcz_world.proofs.Vocabulary.{turn_event, turn_lacks_serials, HasLengths, WordTable, source_for, touch, IsRegular}
use Rattle.ipcz_base.specs.declared.refusal.Refusal.TheVariants.{NumbersEnd, OutOfMemory}
use Rattle.ipcz_router.specs.ActEffects.{IsAnswerOf}
use Rattle.ipcz_node.specs.declared.act.Act.TheVariants.{Hand as OfHand, Router as OfRouter}
use Rattle.ipcz_node.specs.declared.happened.Happened.TheVariants as events
use Rattle.ipcz_node.specs.Hands.{message_lacks_serials, message_grows}
use Rattle.ipcz_node.specs.Node.{source_in, word_side}
use Rattle.ipcz_word.specs.Laws.{HasNode}
use Rattle.ipcz_node.specs.Acts.{Answers}
use Rattle.ipcz_node.specs.Preparing.{act_grows}
use Rattle.ipcz_node.specs.RoomyNodes.{IsPossibleAct}
use Rattle.ipcz_world.specs.declared.mail.Mail.TheVariants.{Full, Hand as InHand}
use Rattle.ipcz_world.specs.Turns.{hand_lacks_serials, hand_grows}
use Rattle.ipcz_world.specs.Turns.{commit_at}
use Rattle.ipcz_world.specs.Turns.{turn_grows, is_first_pending}
use Rattle.ipcz_world.specs.Mailing.{taken_up, put_down}
use Rattle.ipcz_world.specs.Coding.{table_answer, table_after, table_of}
use Rattle.ipcz_world.specs.Taking.{IsTaken}
use Rattle.ipcz_world.proofs.code.RouterActs.{link_of, retabled, answers-as, touches-as, answers-kind}
use Rattle.ipcz_world.proofs.code.Slots.{put-same}
use Rattle.std.proofs.lemmas.Bool.{and_parts}
use Rattle.ipcz_world.proofs.runs.NodeSteps.{hand-is}
use Rattle.ipcz_world.proofs.facts.LinkTests.{same_end-tells}

-- the world with this node in the place of its number
abbrev pub with_node : World → ℕ → Node → World
with_node w n x = record w { nodes = put_place (bare_node 0 0) w.nodes n x }

-- a node that is written back as it was leaves the world
pub unchanged : (w : World) (n : ℕ) (x : Node) → HasLengths w → n < w.count → x ≡ node_at w n → with_node w n x ≡ w
unfolding node_at
unchanged w n x has l e = λ j. record w {
  nodes = (ap (put_place (bare_node 0 0) w.nodes n) e ∙ put-same (bare_node 0 0) w.nodes n (omega (arith, l, has.nodes))) j;
}

module _ {X : Type 0} (tells : Happened → X → Type 0) (w : World) (n : ℕ) where
  -- a refused act that asks nothing of a message leaves the world
  pub refused-act : (act : Act) (old x : Node) (why : Refusal) → HasLengths w → n < w.count → old ≡ node_at w n → x ≡ old →
      why ≡ (if act_lacks_serials old act then NumbersEnd else OutOfMemory) →
      turn_lacks_serials w n act ≡ act_lacks_serials (node_at w n) act → turn_grows w n act ≡ act_grows (node_at w n) act →
      (act_grows old act ≡ false → act_lacks_serials old act ≡ false → false ≡ true) → IsTaken tells w n act (Err why) (with_node w n x)
  refused-act act old x why has l e same because lacks needs grows = record {
    event = tt;
    done = tt;
    allowed = tt;
    why = because ∙ ap (λ y. if act_lacks_serials y act then NumbersEnd else OutOfMemory) e
        ∙ ap (λ b. if b then NumbersEnd else OutOfMemory) (sym lacks);
    grows = λ g k. grows (ap (λ y. act_grows y act) e ∙ sym needs ∙ g) (ap (λ y. act_lacks_serials y act) e ∙ sym lacks ∙ k);
    left = unchanged w n x has l (same ∙ e);
  }

  pub refused-close : (end : End) (old x : Node) (why : Refusal) → HasLengths w → n < w.count → old ≡ node_at w n → x ≡ old →
      why ≡ (if act_lacks_serials old (Close end) then NumbersEnd else OutOfMemory) →
      (act_grows old (Close end) ≡ false → act_lacks_serials old (Close end) ≡ false → false ≡ true) →
      IsTaken tells w n (Close end) (Err why) (with_node w n x)
  unfolding turn_lacks_serials turn_grows
  refused-close end old x why has l e same because grows = refused-act (Close end) old x why has l e same because refl refl grows

  -- a pending close is done by the node alone
  pub done-close : (end : End) (old x : Node) (event : Happened) (told : X) → old ≡ node_at w n → x ≡ commit old (Close end) Plain →
      event ≡ event_of old (Close end) Plain → tells event told → act_lacks_serials old (Close end) ≡ false →
      IsTaken tells w n (Close end) (Ok told) (with_node w n x)
  unfolding turn_event after_act turn_lacks_serials set_node
  done-close end old x event told e is seen says low = record {
    event = subst (λ h. tells h told) (seen ∙ ap (λ y. event_of y (Close end) Plain) e) says;
    done = ap (with_node w n) (is ∙ ap (λ y. commit y (Close end) Plain) e);
    allowed = sym (ap (λ y. act_lacks_serials y (Close end)) e) ∙ low;
    why = tt;
    grows = λ g z. refl;
    left = tt;
  }

-- the world with another mailbox
abbrev pub with_mail : World → ℕ → Mail → World
with_mail w k m = record w { mail = put_place Empty w.mail k m }

-- a mailbox that is looked into is full
looks-full : (w : World) (n from : ℕ) → can_take w n (Look from) ≡ true → is_full (mail_at w (way w from n)) ≡ true
unfolding can_take
looks-full w n from h =
    (and_parts (is_none (node_at w n).hand) (is_full (mail_at w (way w from n)))
    (and_parts (nat_lt from w.count) (is_none (node_at w n).hand && is_full (mail_at w (way w from n))) h).1).1

looked : (w : World) (n from k : ℕ) (m : Mail) → mail_at w k ≡ m → is_full (mail_at w k) ≡ true → k ≡ way w from n →
    with_mail (commit_at w w n (Look from) Plain) k (taken_up (place_at Empty (commit_at w w n (Look from) Plain).mail k)) ≡
    after_look w n from (full_message (mail_at w k))
unfolding set_node mail_at set_mail is_full full_message taken_up after_look
looked w n from k Empty e h is = absurd (let no : false ≡ true = ap is_full (sym e) ∙ h in cc)
looked w n from k (Full m) e h is = rw (e, is) refl
looked w n from k (InHand m) e h is = absurd (let no : false ≡ true = ap is_full (sym e) ∙ h in cc)

-- a look takes the message of the mailbox up
pub done-look : {X : Type 0} (tells : Happened → X → Type 0) (w : World) (n from : ℕ) (told : X) (old x : Node) (mail : List Mail) →
    tells (events.Look from) told → old ≡ node_at w n → can_take w n (Look from) ≡ true → x ≡ commit old (Look from) Plain →
    mail ≡ put_place Empty w.mail (way w from n) (taken_up (place_at Empty w.mail (way w from n))) →
    IsTaken tells w n (Look from) (Ok told) (record (with_node w n x) { mail = mail })
unfolding turn_event after_act turn_lacks_serials event_of act_lacks_serials set_node
done-look tells w n from told old x mail says e may is kept = record {
  event = says;
  done = (λ j. record w {
    nodes = put_place (bare_node 0 0) w.nodes n ((is ∙ ap (λ y. commit y (Look from) Plain) e) j);
    mail = kept j;
  }) ∙ looked w n from (way w from n) (mail_at w (way w from n)) refl (looks-full w n from may) refl;
  allowed = refl;
  why = tt;
  grows = λ g z. refl;
  left = tt;
}

-- a post leaves its message in the mailbox
pub done-post : {X : Type 0} (tells : Happened → X → Type 0) (w : World) (n to : ℕ) (told : X) (m : Message) (old x : Node) (mail : List Mail) →
    tells (events.Post to) told → old ≡ node_at w n → Some m ≡ post_of old (Post to) → x ≡ commit old (Post to) Plain →
    mail ≡ put_place Empty w.mail (way w n to) (Full m) →
    IsTaken tells w n (Post to) (Ok told) (record (with_node w n x) { mail = mail })
unfolding turn_event after_act turn_lacks_serials event_of act_lacks_serials set_node set_mail after_post
done-post tells w n to told m old x mail says e posted is kept =
    let has : post_of (node_at w n) (Post to) ≡ Some m = ap (λ y. post_of y (Post to)) (sym e) ∙ sym posted in
    record {
      event = says;
      done = rw has (λ j. record w {
        nodes = put_place (bare_node 0 0) w.nodes n ((is ∙ ap (λ y. commit y (Post to) Plain) e) j);
        mail = kept j;
      });
      allowed = refl;
      why = tt;
      grows = λ g z. refl;
      left = tt;
    }

-- whom a node looks to, and whom it posts to, is one of the world
pub looks-to-node : (w : World) (n from : ℕ) → can_take w n (Look from) ≡ true → from < w.count
unfolding can_take
looks-to-node w n from h =
    let t = (and_parts (nat_lt from w.count) (is_none (node_at w n).hand && is_full (mail_at w (way w from n))) h).0 in
    grind (arith, t, nat_tests)

pub posts-to-node : (w : World) (n to : ℕ) → can_take w n (Post to) ≡ true → to < w.count
unfolding can_take
posts-to-node w n to h =
    let t = (and_parts (nat_lt to w.count) (has_mail_for (node_at w n) to && is_clear (mail_at w (way w n to))) h).0 in
    grind (arith, t, nat_tests)

pub posts-to-clear : (w : World) (n to : ℕ) → can_take w n (Post to) ≡ true → is_clear (mail_at w (way w n to)) ≡ true
unfolding can_take
posts-to-clear w n to h =
    (and_parts (has_mail_for (node_at w n) to) (is_clear (mail_at w (way w n to)))
    (and_parts (nat_lt to w.count) (has_mail_for (node_at w n) to && is_clear (mail_at w (way w n to))) h).1).1

pub looks-to-full : (w : World) (n from : ℕ) → can_take w n (Look from) ≡ true → is_full (mail_at w (way w from n)) ≡ true
unfolding can_take
looks-to-full w n from h =
    (and_parts (is_none (node_at w n).hand) (is_full (mail_at w (way w from n)))
    (and_parts (nat_lt from w.count) (is_none (node_at w n).hand && is_full (mail_at w (way w from n))) h).1).1

-- what a node of the world may take, it can do
pub look-may : (w : World) (n from : ℕ) → can_take w n (Look from) ≡ true → IsPossibleAct (node_at w n) (Look from)
unfolding can_take
look-may w n from h =
    empty_hand (node_at w n).hand
    (and_parts (is_none (node_at w n).hand) (is_full (mail_at w (way w from n)))
    (and_parts (nat_lt from w.count) (is_none (node_at w n).hand && is_full (mail_at w (way w from n))) h).1).0
  where
    empty_hand : (hand : Option ℕ) → is_none hand ≡ true → hand ≡ None
    empty_hand None e = refl
    empty_hand (Some from) e = cc

pub post-may : (w : World) (n to : ℕ) → can_take w n (Post to) ≡ true → IsPossibleAct (node_at w n) (Post to)
unfolding can_take
post-may w n to h =
    (and_parts (has_mail_for (node_at w n) to) (is_clear (mail_at w (way w n to)))
    (and_parts (nat_lt to w.count) (has_mail_for (node_at w n) to && is_clear (mail_at w (way w n to))) h).1).0

pub close-may : (w : World) (n : ℕ) (end : End) → can_take w n (Close end) ≡ true → IsPossibleAct (node_at w n) (Close end)
unfolding can_take is_first_pending first_of
close-may w n end h = first (node_at w n).pending h
  where
    first : (pending : List End) → is_first_pending pending end ≡ true → first_of pending ≡ Some end
    first [] e = cc
    first (x ∷ xs) e = ap Some (same_end-tells x end e)

-- a message in hand is there, and of a node of the world
pub has-in-hand : (w : World) (n from : ℕ) → can_take w n (OfHand from) ≡ true → hand_message (mail_at w (way w from n)) ≡ None → ⊥
unfolding can_take
has-in-hand w n from h none =
    let some = (and_parts (is_hand_of (node_at w n).hand from) (is_some (hand_message (mail_at w (way w from n)))) h).1 in
    let no : false ≡ true = ap is_some (sym none) ∙ some in cc

pub sender-is-node : (w : World) (n from : ℕ) → IsRegular w → n < w.count → can_take w n (OfHand from) ≡ true → from < w.count
unfolding can_take
sender-is-node w n from is l h =
    (is.sound n l).hand from
    (hand-is (node_at w n).hand from (and_parts (is_hand_of (node_at w n).hand from) (is_some (hand_message (mail_at w (way w from n))))
    h).0)

taken-down : (k : Mail) (m : Message) → hand_message k ≡ Some m → k ≡ InHand m
unfolding hand_message
taken-down Empty m e = cc
taken-down (Full x) m e = cc
taken-down (InHand x) m e = ap InHand (some-same e)
  where
    some-same : Some x ≡ Some m → x ≡ m
    some-same e = cc

-- a message in hand is handled
pub done-hand : {X : Type 0} (tells : Happened → X → Type 0) (w : World) (n from : ℕ) (told : X) (m : Message) (old x : Node) (mail : List Mail) →
    tells (turn_event w n (OfHand from)) told → old ≡ node_at w n →
    hand_message (mail_at w (way w from n)) ≡ Some m → x ≡ deliver old from m (source_for w m) →
    message_lacks_serials old from m (source_for w m) ≡ false →
    mail ≡ put_place Empty w.mail (way w from n) (put_down (mail_at w (way w from n))) →
    IsTaken tells w n (OfHand from) (Ok told) (record (with_node w n x) { mail = mail })
unfolding after_act turn_lacks_serials after_hand hand_lacks_serials set_node set_mail put_down
done-hand tells w n from told m old x mail says e has is low kept = record {
  event = says;
  done = rw has (λ j. record w {
    nodes = put_place (bare_node 0 0) w.nodes n ((is ∙ ap (λ y. deliver y from m (source_for w m)) e) j);
    mail = (kept ∙ ap (λ k. put_place Empty w.mail (way w from n) (put_down k)) (taken-down (mail_at w (way w from n)) m has)) j;
  });
  allowed = rw has (sym (ap (λ y. message_lacks_serials y from m (source_for w m)) e) ∙ low);
  why = tt;
  grows = λ g k. refl;
  left = tt;
}

-- a node and the mailboxes that are written back as they were leave the world
pub unchanged-both : (w : World) (n : ℕ) (old x : Node) (mail : List Mail) → HasLengths w → n < w.count → old ≡ node_at w n → x ≡ old →
    mail ≡ w.mail → ◌≡◌ {A = World} (record (with_node w n x) { mail = mail }) w
unfolding node_at
unchanged-both w n old x mail has l e same kept = λ j. record w {
  nodes = (ap (put_place (bare_node 0 0) w.nodes n) (same ∙ e) ∙ put-same (bare_node 0 0) w.nodes n (omega (arith, l, has.nodes))) j;
  mail = kept j;
}

-- a message that finds no room stays where it is
pub kept-hand : {X : Type 0} (tells : Happened → X → Type 0) (w : World) (n from : ℕ) (m : Message) (why : Refusal) (old x : Node)
    (mail : List Mail) → HasLengths w → n < w.count →
    old ≡ node_at w n → hand_message (mail_at w (way w from n)) ≡ Some m → x ≡ old →
    why ≡ (if message_lacks_serials old from m (source_for w m) then NumbersEnd else OutOfMemory) →
    (message_grows old from m (source_for w m) ≡ false → false ≡ true) → mail ≡ w.mail →
    IsTaken tells w n (OfHand from) (Err why) (record (with_node w n x) { mail = mail })
unfolding turn_lacks_serials hand_lacks_serials turn_grows hand_grows
kept-hand tells w n from m why old x mail has l e is same because grows kept = record {
  event = tt;
  done = tt;
  allowed = tt;
  why = rw is (because ∙ ap (λ y. if message_lacks_serials y from m (source_for w m) then NumbersEnd else OutOfMemory) e);
  grows = rw is (λ g k. grows (ap (λ y. message_grows y from m (source_for w m)) e ∙ g));
  left = unchanged-both w n old x mail has l e same kept;
}

-- a message is there, if it isn't so that none is
pub some-there : (o : Option Message) → (o ≡ None → ⊥) → (m : Message) × (o ≡ Some m)
some-there None not_none = absurd (not_none refl)
some-there (Some m) not_none = (m, refl)

-- nothing is done
pub done-idle : {X : Type 0} (tells : Happened → X → Type 0) (w : World) (n : ℕ) (told : X) → tells events.Idle told →
    IsTaken tells w n Idle (Ok told) w
unfolding turn_event after_act turn_lacks_serials event_of act_lacks_serials
done-idle tells w n told says = record { event = says; done = refl; allowed = refl; why = tt; grows = λ g k. refl; left = tt }

module _ (w : World) (n serial : ℕ) (act : RouterAct) (is : IsRegular w) (l : n < w.count) where
  stands : (o : Option Router) → may_act o act ≡ true → (r : Router) × (o ≡ Some r) × (may_take r act ≡ true)
  unfolding may_act
  stands None h = cc
  stands (Some r) h = (r, refl, h)

  -- the router that is to act
  abbrev link : Option (ℕ × Side)
  link = word_side (node_at w n) serial

  -- the node that it names as the source
  abbrev source : Option ℕ
  source = source_in (node_at w n) serial

  pub router-stands : can_take w n (OfRouter serial act) ≡ true → (r : Router) × (router_in (node_at w n) serial ≡ Some r) ×
      (may_take r act ≡ true)
  unfolding can_take router_at
  router-stands h = stands (router_in (node_at w n) serial) h

  link-is : (r : Router) → router_in (node_at w n) serial ≡ Some r → link ≡ link_of r (primary_word r)
  link-is r e = rw e refl

  source-is : (r : Router) → router_in (node_at w n) serial ≡ Some r → source ≡ source_of r
  source-is r e = rw e refl

  -- the source is a node
  pub source-is-node : can_take w n (OfRouter serial act) ≡ true → HasNode source
  source-is-node h = let t = router-stands h in subst HasNode (sym (source-is t.0 t.1)) (is.sourced n serial t.0 l t.1)

  -- what the table answers, and what it is after, by the router itself
  asks : (X : Type 0) (f : Option ℕ → Option (ℕ × Side) → X) (r : Router) → router_in (node_at w n) serial ≡ Some r →
      f source link ≡ f (source_of r) (link_of r (primary_word r))
  asks X f r e = ap (λ o. f o link) (source-is r e) ∙ ap (f (source_of r)) (link-is r e)

  bounded : (r : Router) → router_in (node_at w n) serial ≡ Some r → (p : Option ℕ) → primary_word r ≡ p → IfSome p (λ i. i < w.claimed)
  bounded r e None h = tt
  bounded r e (Some i) h = (is.sound n l).primary serial r i e h

  sized : (p : Option ℕ) → IfSome p (λ i. i < w.claimed) → IfSome p (λ i. i < w.size)
  sized None h = tt
  sized (Some i) h = omega (arith, h, is.lengths.claimed)

  linked : (r : Router) (p : Option ℕ) → IfSome p (λ i. i < w.claimed) → IfSome (link_of r p) (λ x. x.0 < w.claimed)
  linked r None h = tt
  linked r (Some i) h = h

  -- its word is claimed
  pub link-within : can_take w n (OfRouter serial act) ≡ true → IfSome link (λ x. x.0 < w.claimed)
  link-within h = let t = router-stands h in
      subst (λ o. IfSome o (λ x. x.0 < w.claimed)) (sym (link-is t.0 t.1))
      (linked t.0 (primary_word t.0) (bounded t.0 t.1 (primary_word t.0) refl))

  -- it may take the act
  pub router-may : can_take w n (OfRouter serial act) ≡ true → IsPossibleAct (node_at w n) (OfRouter serial act)
  router-may h = let t = router-stands h in rw t.1 t.2

  -- the answer is of the act's kind
  pub answer-kind : can_take w n (OfRouter serial act) ≡ true → (a : Answer) → a ≡ table_answer (table_of w) source act link →
      Answers (OfRouter serial act) a
  answer-kind h a e = let t = router-stands h in
      subst (IsAnswerOf act) (sym (e ∙ asks Answer (λ o p. table_answer (table_of w) o act p) t.0 t.1))
      (answers-kind (table_of w) t.0 act t.2)

  -- a router's act changes its node and the words
  pub done-router : {X : Type 0} (tells : Happened → X → Type 0) → can_take w n (OfRouter serial act) ≡ true → (old x : Node) (told : X)
      (a : Answer) (t : WordTable) → old ≡ node_at w n →
      a ≡ table_answer (table_of w) source act link → t ≡ table_after (table_of w) source act link → x ≡ commit old
      (OfRouter serial act) a →
      tells (event_of old (OfRouter serial act) a) told →
      act_lacks_serials old (OfRouter serial act) ≡ false →
      IsTaken tells w n (OfRouter serial act) (Ok told) (record (retabled w t) { nodes = put_place (bare_node 0 0) w.nodes n x })
  unfolding turn_event after_act turn_lacks_serials router_seen after_router_act router_at set_node
  done-router tells h old x told a t e is-a is-t is-x seen low =
      let s = router-stands h in
      let answer : a ≡ answer_of w s.0 act = is-a ∙ asks Answer (λ o p. table_answer (table_of w) o act p) s.0 s.1 ∙
      sym (answers-as w s.0 act is.lengths) in
      let words : retabled w t ≡ touch w s.0 act =
      ap (retabled w) (is-t ∙ asks WordTable (λ o p. table_after (table_of w) o act p) s.0 s.1) ∙
      sym (touches-as w s.0 act is.lengths (sized (primary_word s.0) (bounded s.0 s.1 (primary_word s.0) refl))) in
      let made : x ≡ commit (node_at w n) (OfRouter serial act) (answer_of w s.0 act) =
      is-x ∙ ap (λ y. commit y (OfRouter serial act) a) e ∙ ap (commit (node_at w n) (OfRouter serial act)) answer in
      let same : w.nodes ≡ (touch w s.0 act).nodes = ap (λ (v : World). v.nodes) words in
      record {
        event = rw s.1 (subst (λ h. tells h told)
            (ap (λ y. event_of y (OfRouter serial act) a) e ∙ ap (event_of (node_at w n) (OfRouter serial act)) answer) seen);
        done = rw s.1 (λ j. record (words j) { nodes = put_place (bare_node 0 0) (same j) n (made j) });
        allowed = sym (ap (λ y. act_lacks_serials y (OfRouter serial act)) e) ∙ low;
        why = tt;
        grows = λ g k. refl;
        left = tt;
      }

  -- a refused act of a router leaves the world
  pub refused-router : {X : Type 0} (tells : Happened → X → Type 0) (old x : Node) (why : Refusal) → old ≡ node_at w n → x ≡ old →
      why ≡ (if act_lacks_serials old (OfRouter serial act) then NumbersEnd else OutOfMemory) →
      (act_grows old (OfRouter serial act) ≡ false → act_lacks_serials old (OfRouter serial act) ≡ false → false ≡ true) →
      IsTaken tells w n (OfRouter serial act) (Err why) (with_node w n x)
  unfolding turn_lacks_serials turn_grows
  refused-router tells old x why e same because grows =
      refused-act tells w n (OfRouter serial act) old x why is.lengths l e same because refl refl grows

-- what a node is asked to do, of an equal world
pub record IsAsked (w : World) (n : ℕ) (act : Act) : Type 0 where
  pub regular : IsRegular w
  pub here : n < w.count
  pub may : can_take w n act ≡ true

pub asked : (w v : World) (n : ℕ) (act : Act) → v ≡ w → IsRegular w → n < w.count → can_take w n act ≡ true → IsAsked v n act
asked w v n act e is l h = subst (λ w. IsAsked w n act) (sym e) (record { regular = is; here = l; may = h })
