-- Each step keeps a world bounded: nothing comes to lie beyond its nodes.
use Rattle.ipcz_world.proofs.Vocabulary.{End, Side, Message, Refusal, Word, empty_word, open_word, Router, primary_word, RouterAct, Act, Hand, Close}
use Rattle.ipcz_world.proofs.Vocabulary.{Node, bare_node, terminal_of, router_in, outbox, commit, place_at, Reply, World, node_at, mail_at, way}
use Rattle.ipcz_world.proofs.Vocabulary.{router_at, set_node, set_word, set_claimed, set_mail, answer_of, can_take, after_act, unless, Books, Records}
use Rattle.ipcz_world.proofs.Vocabulary.{Inv, source_for, source_of, Answer, Look, Post, Idle, on_router, with_outbox, put_at_router, put_node}
use Rattle.ipcz_world.proofs.Vocabulary.{put_refusal, get_at_router, get_node, get_refusal, close_at_router, close_end, close_refusal, open_node}
use Rattle.ipcz_world.proofs.Vocabulary.{serials_refusal, deliver, commit_router, post_of, rest_of, Mail, Printed, Wide, Step, touch_word, touch}
use Rattle.ipcz_world.proofs.Vocabulary.{full_message, router_of, turn_lacks_serials, after_router_act, after_hand, after_look, after_post, Effect}
use Rattle.ipcz_world.proofs.Vocabulary.{refuse, at_node, open_with, open_on, claim_for_open, has_unclaimed_word}
use Rattle.std.specs.Prelude.{◌≡◌, ◌≤◌, ◌<◌, ℕ, suc, ◌+◌, ◌*◌, ◌-◌, Bool, true, false, cond, nat_eq, nat_lt, if◌then◌else◌, Option, Some}
use Rattle.std.specs.Prelude.{None, refl, [], ◌∷◌}
use Rattle.std.proofs.Common.{arith, ap, subst, ◌∙◌, sym, inl, inr}
use Rattle.std.proofs.lemmas.Bool.Decides.{nat_tests}
use Rattle.ipcz_base.specs.declared.parcel.Parcel as parcels
use Rattle.ipcz_base.specs.declared.refusal.Refusal.TheVariants as refusals
use Rattle.ipcz_router.specs.declared.act.RouterAct.TheVariants as acts
use Rattle.ipcz_node.specs.declared.act.Act.TheVariants.{Router as OfRouter}
use Rattle.ipcz_node.specs.Node.{without_ends}
use Rattle.ipcz_world.specs.declared.mail.Mail.TheVariants as mails
use Rattle.ipcz_base.proofs.Indexed.{length-put_place}
use Rattle.ipcz_world.specs.declared.step.Step.TheVariants as steps
use Rattle.ipcz_world.specs.Turns.{message_in_hand}
use Rattle.ipcz_world.specs.Steps.{Scheduler, StepBy}
use Rattle.ipcz_world.proofs.frames.Frames.{node-set_node, mail-set_mail, count-set_node, count-set_claimed, size-set_node}
use Rattle.ipcz_world.proofs.frames.Frames.{size-set_claimed}
use Rattle.ipcz_world.proofs.facts.NodeCount.{count-touch}
use Rattle.ipcz_world.specs.Settling.{IsBounded}
use Rattle.ipcz_world.proofs.lawful.Soundness.{primary_below, opening_below}
use Rattle.ipcz_world.proofs.runs.Bounds.{IsBoxed, boxed-with, boxed-found, boxed-router, boxed-deliver}
use Rattle.ipcz_world.proofs.runs.NodeSteps.{hand-is}
use Rattle.ipcz_world.proofs.facts.Tests.{and_first}

pub bounded-set_node : (w : World) (n : ℕ) (x : Node) → n < w.count → IsBounded w → IsBoxed w.count x → IsBounded (set_node w n x)
unfolding set_node mail_at
bounded-set_node w n x ln b h = record {
  nodes = length-put_place (bare_node 0 0) w.nodes n x (subst (λ k. n < k) (sym b.nodes) ln) ∙ b.nodes;
  words = b.words;
  mailboxes = b.mailboxes;
  few = b.few;
  box = λ m to l k. go m to l k (nat_eq m n) (node-set_node w n x m);
  mail = b.mail;
}
  where
    go : (m to : ℕ) → m < w.count → w.count ≤ to → (c : Bool) → node_at (set_node w n x) m ≡ cond c x (node_at w m) →
        place_at [] (node_at (set_node w n x) m).outboxes to ≡ []
    go m to l k true e = ap (λ (y : Node). place_at [] y.outboxes to) e ∙ h to k
    go m to l k false e = ap (λ (y : Node). place_at [] y.outboxes to) e ∙ b.box m to l k

bounded-set_word : (w : World) (i : ℕ) (x : Word) → i < w.size → IsBounded w → IsBounded (set_word w i x)
unfolding set_word node_at mail_at
bounded-set_word w i x l b = record {
  nodes = b.nodes;
  words = length-put_place empty_word w.words i x (subst (λ k. i < k) (sym b.words) l) ∙ b.words;
  mailboxes = b.mailboxes;
  few = b.few;
  box = b.box;
  mail = b.mail;
}

bounded-set_claimed : (w : World) (i : ℕ) → IsBounded w → IsBounded (set_claimed w i)
unfolding set_claimed node_at mail_at
bounded-set_claimed w i b = record { nodes = b.nodes; words = b.words; mailboxes = b.mailboxes; few = b.few; box = b.box; mail = b.mail }

-- the number of a mailbox between two nodes is below the number of mailboxes
way_below : (n from to : ℕ) → from < n → to < n → from * n + to < n * n
way_below n from to p q = subst (λ d. from * n + to < d * n) (sym (minus n from p).1) (go (minus n from p).0)
  where
    minus : (n from : ℕ) → from < n → (d : ℕ) × (n ≡ suc (from + d))
    minus n from p = (n - suc from, omega (arith, p))

    go : (d : ℕ) → from * n + to < suc (from + d) * n
    go d = let e : suc (from + d) * n ≡ from * n + (n + d * n) = grind arith in omega (arith, e, q)

bounded-set_mail : (w : World) (from to : ℕ) (y : Mail) → from < w.count → to < w.count → IsBounded w →
    IsBounded (set_mail w (way w from to) y)
unfolding set_mail node_at
bounded-set_mail w from to y l m b = record {
  nodes = b.nodes;
  words = b.words;
  mailboxes = length-put_place mails.Empty w.mail (way w from to) y
      (subst (λ k. way w from to < k) (sym b.mailboxes) (way_below w.count from to l m)) ∙ b.mailboxes;
  few = b.few;
  box = b.box;
  mail = λ k never. mail-set_mail w (way w from to) y k ∙ go k never (nat_eq k (way w from to)) refl;
}
  where
    go : (k : ℕ) → ((from to : ℕ) → from < w.count → to < w.count → k ≡ way w from to → ⊥) → (c : Bool) → nat_eq k (way w from to) ≡ c →
        cond (nat_eq k (way w from to)) y (mail_at w k) ≡ mails.Empty
    go k never true e = absurd (never from to l m (grind (arith, e, nat_tests)))
    go k never false e = ap (λ c. cond c y (mail_at w k)) e ∙ b.mail k never

bounded-touch_word : (w : World) (s : Side) (x : Option ℕ) (a : RouterAct) (o : Option ℕ) → ((i : ℕ) → o ≡ Some i → i < w.size) →
    IsBounded w →
    IsBounded (touch_word w s x a o)
unfolding touch_word
bounded-touch_word w s x a None l b = b
bounded-touch_word w s x a (Some i) l b = bounded-set_word w i _ (l i refl) b

bounded-touch : (w : World) (r : Router) (a : RouterAct) → ((i : ℕ) → primary_word r ≡ Some i → i < w.size) → IsBounded w →
    IsBounded (touch w r a)
unfolding touch
bounded-touch w r acts.Mark l b = bounded-touch_word w r.end.side (source_of r) acts.Mark (primary_word r) l b
bounded-touch w r acts.Wake l b = bounded-touch_word w r.end.side (source_of r) acts.Wake (primary_word r) l b
bounded-touch w r acts.Claim l b = go (has_unclaimed_word w)
  where
    go : (c : Bool) → IsBounded (if c then set_claimed w (w.claimed + 1) else w)
    go true = bounded-set_claimed w (w.claimed + 1) b
    go false = b
bounded-touch w r acts.Lock l b = bounded-touch_word w r.end.side (source_of r) acts.Lock (primary_word r) l b
bounded-touch w r acts.Unlock l b = bounded-touch_word w r.end.side (source_of r) acts.Unlock (primary_word r) l b
bounded-touch w r other l b = b

module _ (w : World) (books : Books) (g : Records) (law : Inv w books g) (b : IsBounded w) where
  module _ (n : ℕ) (l : n < w.count) where
    boxed : IsBoxed w.count (node_at w n)
    boxed = λ to k. b.box n to l k

    at_post : (from to : ℕ) (y : Mail) (x : Node) → from < w.count → to < w.count → IsBoxed w.count x →
        IsBounded (set_mail (set_node w n x) (way w from to) y)
    at_post from to y x p q h = moved (set_node w n x) same (bounded-set_node w n x l b h)
      where
        same : (set_node w n x).count ≡ w.count
        same = count-set_node w n x

        moved : (u : World) → u.count ≡ w.count → IsBounded u → IsBounded (set_mail u (way w from to) y)
        moved u e c = subst (λ i. IsBounded (set_mail u (from * i + to) y)) e
            (bounded-set_mail u from to y (subst (λ i. from < i) (sym e) p) (subst (λ i. to < i) (sym e) q) c)

    bounded-hand : (from : ℕ) (o : Option Message) → from < w.count → IsBounded (after_hand w n from o)
    unfolding after_hand
    bounded-hand from None k = b
    bounded-hand from (Some m) k = at_post from n mails.Empty (deliver (node_at w n) from m (source_for w m)) k l
        (boxed-deliver w books g law n from l boxed m (source_for w m))

    bounded-look : (from : ℕ) (o : Option Message) → from < w.count → IsBounded (after_look w n from o)
    unfolding after_look commit
    bounded-look from None k = b
    bounded-look from (Some m) k = at_post from n (mails.Hand m) (record (node_at w n) { hand = Some from }) k l boxed

    bounded-post : (to : ℕ) (o : Option Message) → to < w.count → IsBounded (after_post w n to o)
    unfolding after_post commit
    bounded-post to None k = b
    bounded-post to (Some m) k = at_post n to (mails.Full m) (with_outbox (node_at w n) to (rest_of (outbox (node_at w n) to))) l k
        (boxed-with w.count (node_at w n) to _ k boxed)

    boxed-close : (x : Node) (e : End) → IsBoxed w.count x → IsBoxed w.count (close_end x e)
    boxed-close x e h = boxed-found w books g law w.count x (terminal_of x e) (close_at_router x) h (λ f q. h)

    boxed-commit : (s : ℕ) (a : RouterAct) (c : Answer) (o : Option Router) → router_at w (record { node = n; serial = s }) ≡ o →
        IsBoxed w.count (on_router (node_at w n) o (commit_router (node_at w n) s a c))
    unfolding on_router
    boxed-commit s a c None e = boxed
    boxed-commit s a c (Some r) e = boxed-router w books g law n s a c r e boxed

    bounded-router : (s : ℕ) (a : RouterAct) (o : Option Router) → router_at w (record { node = n; serial = s }) ≡ o →
        IsBounded (after_router_act w n s a o)
    unfolding after_router_act commit router_at
    bounded-router s a None here = b
    bounded-router s a (Some r) here = bounded-set_node (touch w r a) n _ (subst (λ c. n < c) (sym (count-touch w r a)) l)
        (bounded-touch w r a (λ i on. primary_below w books g law (record { node = n; serial = s }) r i here on) b)
        (subst (λ c. IsBoxed c (on_router (node_at w n) (router_in (node_at w n) s) (commit_router (node_at w n) s a (answer_of w r a))))
        (sym (count-touch w r a)) (boxed-commit s a (answer_of w r a) (router_in (node_at w n) s) refl))

    -- an act that may be taken
    pub bounded-act : (act : Act) → can_take w n act ≡ true → IsBounded (after_act w n act)
    unfolding after_act can_take commit
    bounded-act (Hand from) can = bounded-hand from (message_in_hand w n from)
        (law.counts.hand_from n from l (hand-is (node_at w n).hand from (and_first _ _ can)))
    bounded-act (Look from) can = bounded-look from (full_message (mail_at w (way w from n)))
        (let e : nat_lt from w.count ≡ true = and_first _ _ can in grind (arith, e, nat_tests))
    bounded-act (Post to) can = bounded-post to (post_of (node_at w n) (Post to))
        (let e : nat_lt to w.count ≡ true = and_first _ _ can in grind (arith, e, nat_tests))
    bounded-act (Close e) can = bounded-set_node w n _ l b (boxed-close (record (node_at w n) { pending = rest_of (node_at w n).pending }) e
        boxed)
    bounded-act (OfRouter s a) can = bounded-router s a (router_of w n s) refl
    bounded-act Idle can = b

    boxed-put : (e : End) (p : parcels.Parcel) → IsBoxed w.count (put_node (node_at w n) e p)
    boxed-put e p = boxed-found w books g law w.count (node_at w n) (terminal_of (node_at w n) e) (put_at_router (node_at w n) p) boxed
        (λ f q. boxed)

    boxed-get : (e : End) → IsBoxed w.count (get_node (node_at w n) e)
    boxed-get e = boxed-found w books g law w.count (node_at w n) (terminal_of (node_at w n) e) (get_at_router (node_at w n)) boxed
        (λ f q. boxed)

  unless-bounded : (o : Option Refusal) (done : Effect) → IsBounded done.world → IsBounded (unless w o done).world
  unfolding unless
  unless-bounded None done h = h
  unless-bounded (Some why) done h = b

  at_node-bounded : (n : ℕ) (done : Effect) → (n < w.count → IsBounded done.world) → IsBounded (at_node w n done).world
  at_node-bounded n done h = go (nat_lt n w.count) refl
    where
      go : (c : Bool) → nat_lt n w.count ≡ c → IsBounded (if c then done else refuse w refusals.Stranger).world
      go true e = h (grind (arith, e, nat_tests))
      go false e = b

  open_with-bounded : (counted : World) (n i : ℕ) → n < w.count → i < w.size → counted.count ≡ w.count → counted.size ≡ w.size →
      IsBounded counted → IsBounded (open_with w counted n i).world
  open_with-bounded counted n i l m e d c = unless-bounded (serials_refusal (node_at w n)) _
      (bounded-set_word _ i open_word (subst (λ k. i < k) (sym (size-set_node counted n (open_node (node_at w n) i) ∙ d)) m)
      (bounded-set_node counted n (open_node (node_at w n) i) (subst (λ k. n < k) (sym e) l) c
      (subst (λ k. IsBoxed k (open_node (node_at w n) i)) (sym e) (boxed n l))))

  open_on-bounded : (n : ℕ) (o : Option ℕ) → (node_at w n).opening ≡ o → n < w.count → IsBounded (open_on w n o).world
  unfolding open_on
  open_on-bounded n (Some i) has l = open_with-bounded w n i l (opening_below w books g law n i has) refl refl b
  open_on-bounded n None has l = go (has_unclaimed_word w) refl
    where
      go : (c : Bool) → has_unclaimed_word w ≡ c → IsBounded (if c then open_with w (set_claimed w (w.claimed + 1)) n w.claimed else
          refuse w refusals.NoWord).world
      go true e = open_with-bounded (set_claimed w (w.claimed + 1)) n w.claimed l (grind (arith, e, nat_tests))
          (count-set_claimed w (w.claimed + 1)) (size-set_claimed w (w.claimed + 1)) (bounded-set_claimed w (w.claimed + 1) b)
      go false e = b

  -- the first half of an open
  pub bounded-claim_for_open : (n : ℕ) → n < w.count → IsBounded (claim_for_open w n)
  bounded-claim_for_open n l = bounded-set_claimed _ (w.claimed + 1) (bounded-set_node w n _ l b (boxed n l))

  -- any step in which a turn takes a possible act
  pub bounded-step : (May : Scheduler) → ((n : ℕ) (act : Act) → May w n act → n < w.count → can_take w n act ≡ true) →
      (step : Step) (reply : Reply) (v : World) → StepBy May w step reply v → IsBounded v
  bounded-step May may (steps.Open n) reply v (inl h) = subst IsBounded (sym h.1)
      (at_node-bounded n _ (λ l. open_on-bounded n (node_at w n).opening refl l))
  bounded-step May may (steps.Open n) reply v (inr h) = subst IsBounded (sym h.1.1) b
  bounded-step May may (steps.Put n at bytes ends) reply v (inl h) =
      subst IsBounded (sym h.1) (at_node-bounded n _ (λ l. unless-bounded (put_refusal Printed (node_at w n) at bytes ends) _
      (bounded-set_node w n _ l b (boxed-put n l at (record { bytes = bytes; ends = ends })))))
  bounded-step May may (steps.Put n at bytes ends) reply v (inr h) = subst IsBounded (sym h.1.1) b
  bounded-step May may (steps.PutWide n at bytes ends) reply v (inl h) =
      subst IsBounded (sym h.1) (at_node-bounded n _ (λ l. unless-bounded (put_refusal Wide (node_at w n) at bytes ends) _
      (bounded-set_node w n _ l b (boxed-put n l at (record { bytes = bytes; ends = ends })))))
  bounded-step May may (steps.PutWide n at bytes ends) reply v (inr h) = subst IsBounded (sym h.1.1) b
  bounded-step May may (steps.Get n at) reply v h = subst IsBounded (sym h.1)
      (at_node-bounded n _ (λ l. unless-bounded (get_refusal (node_at w n) at) _ (bounded-set_node w n _ l b (boxed-get n l at))))
  bounded-step May may (steps.Close n at) reply v (inl h) = subst IsBounded (sym h.1)
      (at_node-bounded n _ (λ l. unless-bounded (close_refusal (node_at w n) at) _
      (bounded-set_node w n _ l b (boxed-close n l (record (node_at w n) { held = without_ends (node_at w n).held (at ∷ []) }) at
      (boxed n l)))))
  bounded-step May may (steps.Close n at) reply v (inr h) = subst IsBounded (sym h.1.1) b
  bounded-step May may (steps.Turn n) reply v (act, m, inl h) = subst IsBounded (sym h.1)
      (at_node-bounded n _ (λ l. unless-bounded (if turn_lacks_serials w n act then Some refusals.NumbersEnd else None) _
      (bounded-act n l act (may n act m l))))
  bounded-step May may (steps.Turn n) reply v (act, m, inr h) = subst IsBounded (sym h.3.1) b
