-- A wake keeps the invariant, and so does the hand of the Flush that it sends, whether a router has the link or not.
use Rattle.ipcz_world.proofs.frames.RolesTell.{links-in}
use Rattle.ipcz_world.proofs.frames.GivingUp.{stays_bare}
use Rattle.ipcz_world.proofs.Vocabulary.{A, B, Side, LinkId, Central, LinkEnd, Message, opposite, has, is_central, word_of, Word, Router}
use Rattle.ipcz_world.proofs.Vocabulary.{primary_word, is_possible, output_of, Hand, Node, Found, with_router, World, Key, node_at, word_at, mail_at}
use Rattle.ipcz_world.proofs.Vocabulary.{way, router_at, set_node, set_word, set_mail, set_router, after_act, hand_message, Books, Records, is_linked}
use Rattle.ipcz_world.proofs.Vocabulary.{side_node, side_router, key_passes, Counts, Words, IsRecorded, Inv, source_for, message_output, push_out}
use Rattle.ipcz_world.proofs.Vocabulary.{on_found, link_router, deliver, handle, fits, is_hand_of, after_hand, flushed}
use Rattle.ipcz_world.proofs.frames.Frames.{router-set_word}
use Rattle.ipcz_world.proofs.frames.Sourcing.{sourced-by, had-itself}
use Rattle.std.specs.Prelude.{◌≡◌, ◌⊎◌, ◌<◌, ℕ, ◌+◌, ◌*◌, Bool, true, false, cond, nat_eq, Option, Some, None, is_some, refl}
use Rattle.std.proofs.Common.{arith, sym, ◌∙◌, ap, subst, inl, inr}
use Rattle.std.proofs.lemmas.Bool.Decides.{nat_tests}
use Rattle.std.proofs.lemmas.Option.{same_Some, none-some}
use Rattle.ipcz_base.specs.declared.message.Message.TheVariants as messages
use Rattle.ipcz_router.specs.ActEffects.{wake_other, flush_message}
use Rattle.ipcz_router.specs.declared.act.Applied.TheVariants as sends
use Rattle.ipcz_router.specs.declared.act.RouterAct.TheVariants as acts
use Rattle.ipcz_node.specs.declared.act.Act.TheVariants.{Router as OfRouter}
use Rattle.ipcz_world.specs.declared.mail.Mail.TheVariants as mails
use Rattle.ipcz_world.proofs.facts.Updates.{push_message}
use Rattle.ipcz_world.proofs.frames.Frames.{frames, same_key-itself, word-set_word, word-set_node, claimed-set_word, claimed-set_node}
use Rattle.ipcz_world.proofs.frames.Frames.{node-set_node, mail-set_node, count-set_node}
use Rattle.ipcz_world.proofs.frames.StandingRules.{standing_rules}
use Rattle.ipcz_world.proofs.facts.Updates.{CanTouch, CanHand, wake_act, flush_act, free}
use Rattle.ipcz_world.proofs.frames.Flowing.{IsPushed, IsTaken, way_tells, same_way}
use Rattle.ipcz_world.proofs.frames.Changing.{IsNodeChanged, pushed_by, taken_by, way_apart}
use Rattle.ipcz_world.proofs.frames.OneRouter.{SameButRouter, set-router, set-word, words-set_router}
use Rattle.ipcz_world.proofs.frames.GivingUp.{Gives, HasSameFlags, counts-gives, passes-still}
use Rattle.ipcz_world.proofs.frames.GivenUp.{Settled, stays, keeps_all, words-gives, spares-gives, stages-flags, inv-flags}
use Rattle.ipcz_world.proofs.acts.Flags.{IsFlagged, FlagsFit, OnWord, on-word, flagged-part, flagged-settled, shape-touched, inv-flagged}
use Rattle.ipcz_world.proofs.acts.Updating.{freed, acted-wake}
use Rattle.ipcz_world.proofs.facts.Finding.{found_tells}
use Rattle.ipcz_world.proofs.frames.MessagesPassing.{SameButPost, IsFlush, HasHands, post_is, hands-same, passes-pushed, passes-taken}
use Rattle.ipcz_world.proofs.frames.MessagesAlone.{inv-passes}
use Rattle.ipcz_world.proofs.frames.Known.{node_of_router}
use Rattle.ipcz_world.proofs.facts.Lengths.{opposite-twice}
use Rattle.ipcz_world.specs.WordAnswers.{woken}
use Rattle.ipcz_world.proofs.facts.Updates.{tells_wake}

-- a word of a link changes in what its sides wait for alone
word-waits : (w : World) (g : Records) (i : ℕ) (x : Word) → is_linked (g.owner i) ≡ true → x.stable ≡ (word_at w i).stable →
    x.holder ≡ (word_at w i).holder → x.source ≡ (word_at w i).source → Words w g → Words (set_word w i x) g
unfolding key_passes
word-waits w g i x linked stable holder source law = record {
  each = λ j. record {
    unused = λ h. grind (arith, word j, (law.each j).unused h, nat_tests, h, linked);
    begun_stable = λ s h. says_stable j s ∙ (law.each j).begun_stable s h;
    begun_holder = λ s h. says_holder j s ∙ (law.each j).begun_holder s h;
    stable = λ s a b n. says_stable j s ∙ (law.each j).stable s a b n ∙ sym (known (side_router g (Central j) s) _);
    holder = λ s a b n. says_holder j s ∙ (law.each j).holder s a b n ∙ sym (known (side_router g (Central j) s) _);
    left_held = λ s h. rw (says_holder j A, says_holder j B) ((law.each j).left_held s h);
    held_stable = λ s t h. says_stable j t ∙ (law.each j).held_stable s t (sym (says_holder j s) ∙ h);
    one_holder = λ s t a b. (law.each j).one_holder s t (sym (says_holder j s) ∙ a) (sym (says_holder j t) ∙ b);
    begun_source = λ h l. says_source j ∙ (law.each j).begun_source h l;
  };
  source = sourced-by w (set_word w i x) (λ q z at h. had-itself w q z (sym (router-set_word w i x q) ∙ at))
      (λ q z e j at p l. says_source j) law.source;
}
  where
    says_source : (j : ℕ) → (word_at (set_word w i x) j).source ≡ (word_at w j).source
    says_source j = grind (arith, word-set_word w i x j, source, nat_tests)

    word : (j : ℕ) → word_at (set_word w i x) j ≡ cond (nat_eq j i) x (word_at w j)
    word j = word-set_word w i x j

    says_stable : (j : ℕ) (s : Side) → has (word_at (set_word w i x) j).stable s ≡ has (word_at w j).stable s
    says_stable j s = grind (arith, word j, stable, nat_tests)

    says_holder : (j : ℕ) (s : Side) → has (word_at (set_word w i x) j).holder s ≡ has (word_at w j).holder s
    says_holder j s = grind (arith, word j, holder, nat_tests)

    known : (o : Option Key) (test : Router → Bool) → key_passes (set_word w i x) o test ≡ key_passes w o test
    known None test = refl
    known (Some q) test = grind (arith, frames)

-- the same with a router that keeps its links, its queues and the flags of its word
inv-waits : (w : World) (b : Books) (g : Records) (k : Key) (r y : Router) (i : ℕ) (x : Word) → Inv w b g → router_at w k ≡ Some r →
    primary_word r ≡ Some i → IsFlagged r y → HasSameFlags r y → x.stable ≡ (word_at w i).stable → x.holder ≡ (word_at w i).holder →
    x.source ≡ (word_at w i).source → Inv (set_word (set_router w k y) i x) b g
inv-waits w b g k r y i x law here at same flags stable holder source = inv-flags w v b g k r (Some y) gives (stays_bare r y) settled law (record {
  counts = counts-gives w v g k r (Some y) gives (claimed-set_word u i x ∙ claimed-set_node w k.node _) law.counts;
  shape = shape-touched w v k r y law.shape here one same shaped;
  words = word-waits u g i x on.linked (grind (arith, stable, word-set_node w k.node (with_router (node_at w k.node) k.serial y) i))
      (grind (arith, holder, word-set_node w k.node (with_router (node_at w k.node) k.serial y) i))
      (grind (arith, source, word-set_node w k.node (with_router (node_at w k.node) k.serial y) i))
      (words-gives w u g k r (Some y) (stays w u k r y (set-router w k y) here (flagged-part r y same))
      (stays_bare r y) (keeps_all w u r y (words-set_router w k y) flags) law.stands law.words);
  spares = spares-gives w v g k r (Some y) gives (λ z e. ap (λ t. t.spare) (sym (same_Some y z e)) ∙ flags.spare)
      (λ e. absurd (none-some y (sym e))) law.spares;
  stages = stages-flags w v g k r (Some y) gives (stays_bare r y) settled law.stages
      (λ o a c. passes-still gives _ _ ((law.stages o).across_marked a c) (λ e t. grind (arith, standing_rules, flags.marked, t)))
      (λ o a c. passes-still gives _ _ ((law.stages o).across_free a c) (λ e t. grind (arith, standing_rules, flags.holds, t)));
})
  where
    u : World
    u = set_router w k y

    v : World
    v = set_word u i x

    on : OnWord w g k r i
    on = on-word w b g k r i law here at

    one : SameButRouter w v k (Some y)
    one = set-word w u k (Some y) i x (set-router w k y)

    gives : Gives w v k r (Some y)
    gives = stays w v k r y one here (flagged-part r y same)

    settled : Settled w v g k r (Some y)
    settled = flagged-settled w v b g k r y law here same

    shaped : FlagsFit r y
    shaped = record {
      spare = flags.spare;
      central = λ h. (law.shape k r here).marked_central (sym flags.marked ∙ h);
      still = λ h. (law.shape k r here).marked_still (sym flags.marked ∙ h);
      marked = λ h. flags.marked ∙ (law.shape k r here).holds_marked (sym flags.holds ∙ h);
      fit = λ h. (law.shape k r here).holds_fit (sym flags.holds ∙ h);
      word = λ h. (law.shape k r here).holds_spare (sym flags.holds ∙ h);
    }

pushed-post : (n : Node) (to : ℕ) (m : Message) → SameButPost n (push_out n to m)
pushed-post n to m = record {
  node = refl;
  nodes = refl;
  routers = refl;
  pending = refl;
  strays = refl;
  held = refl;
  opening = refl;
  next_router = refl;
  next_peripheral = refl;
}

-- a Flush goes out
pub inv-push_flush : (w : World) (b : Books) (g : Records) (from to : ℕ) (l : LinkId) (s : Side) → Inv w b g → from < w.count →
    to < w.count → IsFlush w g from to (messages.Flush l s) → Inv (push_message w from to (messages.Flush l s)) b g
inv-push_flush w b g from to l s law lf lt fits = inv-passes w v g
    (passes-pushed w v g from to m nodes changed.word changed.claimed changed.size pushed fits) b
    (hands-same w v g law.counts hands (λ j. ap hand_message (mail j)) changed.count) law
  where
    m : Message
    m = messages.Flush l s

    x : Node
    x = push_out (node_at w from) to m

    v : World
    v = push_message w from to m

    changed : IsNodeChanged w v from x
    changed = record {
      node = λ j. node-set_node w from x j;
      word = λ i. grind (arith, frames);
      claimed = grind (arith, frames);
      size =
          grind (arith, frames);
      count = grind (arith, frames);
    }

    mail : (j : ℕ) → mail_at v j ≡ mail_at w j
    mail j = mail-set_node w from x j

    pushed : IsPushed w v from to m
    pushed = pushed_by w v from to x m changed mail refl lf lt

    nodes : (n : ℕ) → SameButPost (node_at w n) (node_at v n)
    nodes n = post_is w from n x (pushed-post (node_at w from) to m)

    hands : (n : ℕ) → (node_at v n).hand ≡ (node_at w n).hand
    hands n = grind (arith, changed.node n, nat_tests)

central-is : (i : ℕ) → is_central (Central i) ≡ true
unfolding is_central
central-is i = refl

pub inv-wake : (w : World) (b : Books) (g : Records) (k : Key) (r : Router) (i : ℕ) (e : LinkEnd) → Inv w b g → CanTouch w k r i acts.Wake →
    r.outward.primary ≡ Some e → Inv (wake_act w k r i e) b g
inv-wake w b g k r i e law can at = inv-push_flush v b g k.node e.other e.link (opposite e.side) sent (sent.counts.on_node k y there)
    (subst (λ n. n < v.count) (sym is.other) (sent.counts.side_on_node e.link (opposite e.side) is.recorded)) fits
  where
    y : Router
    y = wake_other r

    v : World
    v = set_word (set_router w k y) i (woken (word_at w i) r.end.side)

    flagged : IsFlagged r y
    flagged = record { end = refl; outward = refl; inward = refl; out_queue = refl; in_queue = refl; closed = refl; mark_seen = refl; mark_dropped = refl; gone_sent = refl }

    sent : Inv v b g
    sent = inv-waits w b g k r y i (woken (word_at w i) r.end.side) law can.here can.word flagged
        (record { spare = refl; marked = refl; holds = refl }) refl refl refl

    there : router_at v k ≡ Some y
    there = grind (
      arith,
      (set-word w (set_router w k y) k (Some y) i (woken (word_at w i) r.end.side) (set-router w k y)).routers k,
      same_key-itself k,
    )

    is : IsRecorded v g k y e
    is = (links-in sent k y there).primary e at

    on : OnWord w g k r i
    on = on-word w b g k r i law can.here can.word

    fits : IsFlush v g k.node e.other (tells_wake e)
    fits = record {
      link = e.link;
      side = opposite e.side;
      is = refl;
      central = ap is_central (ap (λ z. z.link) (same_Some e on.end (sym at ∙ on.primary)) ∙ on.link) ∙ central-is i;
      recorded = is.recorded;
      receiver = is.other;
      sender = sym (ap (side_node g e.link) (opposite-twice e.side) ∙ node_of_router g e.link e.side k is.router);
    }

wake-sends : (r : Router) (e : LinkEnd) → r.outward.primary ≡ Some e →
    output_of r acts.Wake ≡ sends.Message e.other (tells_wake e)
unfolding output_of message_output flush_message
wake-sends r e at = rw at refl

-- a hand is empty now, and its mailbox
hands-freed : (w v : World) (g : Records) (from to : ℕ) → Counts w g → to < w.count → (node_at w to).hand ≡ Some from →
    ((n : ℕ) → (node_at v n).hand ≡ cond (nat_eq n to) None (node_at w n).hand) →
    ((j : ℕ) → mail_at v j ≡ cond (nat_eq j (way w from to)) mails.Empty (mail_at w j)) → v.count ≡ w.count → HasHands v
unfolding hand_message
hands-freed w v g from to law lt in_its_hand hands mail count = record {
  hand = λ n p l e. seen n p ∙ apart n p (below n l) (other n p e) ∙ law.hand n p (below n l) (was n p e);
  hand_from = λ n p l e. grind (arith, count, law.hand_from n p (below n l) (was n p e));
  in_hand = λ n p l k e. still n p (below n l) (below p k) (sym (seen n p) ∙ e) (way_tells p n from to);
}
  where
    below : (n : ℕ) → n < v.count → n < w.count
    below n l = grind (arith, count, l)

    seen : (n p : ℕ) → is_some (hand_message (mail_at v (way v p n))) ≡ is_some (hand_message (mail_at v (way w p n)))
    seen n p = ap (λ c. is_some (hand_message (mail_at v (p * c + n)))) count

    other : (n p : ℕ) → (node_at v n).hand ≡ Some p → same_way p n from to ≡ false
    other n p e = grind (arith, hands n, e, nat_tests)

    was : (n p : ℕ) → (node_at v n).hand ≡ Some p → (node_at w n).hand ≡ Some p
    was n p e = grind (arith, hands n, e, nat_tests)

    apart : (n p : ℕ) → n < w.count → same_way p n from to ≡ false →
        is_some (hand_message (mail_at v (way w p n))) ≡ is_some (hand_message (mail_at w (way w p n)))
    apart n p l e = let z : mail_at v (way w p n) ≡ mail_at w (way w p n) =
        mail (way w p n) ∙ ap (λ c. cond c mails.Empty (mail_at w (way w p n))) (way_apart w.count p n from to l lt e) in
        ap (λ x. is_some (hand_message x)) z

    still : (n p : ℕ) → n < w.count → p < w.count → is_some (hand_message (mail_at v (way w p n))) ≡ true →
        ((same_way p n from to ≡ true) × (p ≡ from) × (n ≡ to)) ⊎ (same_way p n from to ≡ false) → (node_at v n).hand ≡ Some p
    still n p l k e (inl m) =
        let c : nat_eq (way w p n) (way w from to) ≡ true = grind (arith, m.1, m.2, nat_tests) in
        let z : mail_at v (way w p n) ≡ mails.Empty = mail (way w p n) ∙ ap (λ b. cond b mails.Empty (mail_at w (way w p n))) c in
        absurd (grind (arith, ap (λ x. is_some (hand_message x)) z, e))
    still n p l k e (inr m) = let old : (node_at w n).hand ≡ Some p = law.in_hand n p l k (sym (apart n p l m) ∙ e) in
        go (nat_eq n to) refl old
      where
        go : (c : Bool) → nat_eq n to ≡ c → (node_at w n).hand ≡ Some p → (node_at v n).hand ≡ Some p
        go true q old = let z : n ≡ to = grind (arith, q, nat_tests) in let t : p ≡ from =
            same_Some p from (sym old ∙ ap (λ j. (node_at w j).hand) z ∙ in_its_hand) in absurd (grind (arith, m, z, t, nat_tests))
        go false q old = hands n ∙ ap (λ c. cond c None (node_at w n).hand) q ∙ old

-- a Flush that finds no router is dropped
pub inv-flush_lost : (w : World) (b : Books) (g : Records) (from n : ℕ) (l : LinkId) (s : Side) → Inv w b g → n < w.count →
    mail_at w (way w from n) ≡ mails.Hand (messages.Flush l s) → (node_at w n).hand ≡ Some from → Inv (free w from n) b g
inv-flush_lost w b g from n l s law ln in_hand hand =
    inv-passes w v g (passes-taken w v g from n l s nodes (λ i. grind (arith, frames)) (grind (arith, frames)) (grind (arith, frames))
    taken) b (hands-freed w v g from n law.counts ln hand hands mail changed.count) law
  where
    x : Node
    x = record (node_at w n) { hand = None }

    v : World
    v = free w from n

    changed : IsNodeChanged w v n x
    changed = record {
      node = λ j. grind (arith, frames);
      word = λ i. grind (arith, frames);
      claimed = grind (arith, frames);
      size =
          grind (arith, frames);
      count = grind (arith, frames);
    }

    mail : (j : ℕ) → mail_at v j ≡ cond (nat_eq j (way w from n)) mails.Empty (mail_at w j)
    mail j = grind (arith, frames)

    taken : IsTaken w v from n (messages.Flush l s)
    taken = taken_by w v from n x (messages.Flush l s) changed mail in_hand refl (law.counts.hand_from n from ln hand) ln

    emptied : SameButPost (node_at w n) x
    emptied = record {
      node = refl;
      nodes = refl;
      routers = refl;
      pending = refl;
      strays = refl;
      held = refl;
      opening = refl;
      next_router =
          refl;
      next_peripheral = refl;
    }

    nodes : (j : ℕ) → SameButPost (node_at w j) (node_at v j)
    nodes j = subst (SameButPost (node_at w j)) (grind (arith, frames)) (post_is w n j x emptied)

    hands : (j : ℕ) → (node_at v j).hand ≡ cond (nat_eq j n) None (node_at w j).hand
    hands j = grind (arith, changed.node j, nat_tests)

-- a Flush rouses the router that has its link
pub inv-flush : (w : World) (b : Books) (g : Records) (from : ℕ) (k : Key) (r : Router) (l : LinkId) (s : Side) → Inv w b g →
    CanHand w from k r (messages.Flush l s) → Inv (flush_act w from k r) b g
inv-flush w b g from k r l s law can = inv-flush_lost u b g from k.node l s roused_there (roused_there.counts.on_node k y there)
    (mail-set_node w k.node _ (way u from k.node) ∙ ap (λ c. mail_at w (from * c + k.node)) (count-set_node w k.node _) ∙ can.in_hand)
    (((set-router w k y).nodes k.node).hand ∙ can.hand)
  where
    y : Router
    y = flushed r

    u : World
    u = set_router w k y

    roused_there : Inv u b g
    roused_there = inv-flagged w u b g k r y law can.here (set-router w k y) (words-set_router w k y)
        (record { end = refl; outward = refl; inward = refl; out_queue = refl; in_queue = refl; closed = refl; mark_seen = refl; mark_dropped = refl; gone_sent = refl })
        (record { spare = refl; marked = refl; holds = refl })

    there : router_at u k ≡ Some y
    there = grind (arith, (set-router w k y).routers k, same_key-itself k)

-- a node's hand of a Flush that finds a router
found-flush : (n : Node) (from : ℕ) (l : LinkId) (s : Side) (o : Option ℕ) (f : Found) → n.hand ≡ Some from → link_router n l s ≡ Some f →
    deliver n from (messages.Flush l s) o ≡ record (with_router n f.serial (flushed f.router)) { hand = None }
unfolding deliver handle fits on_found is_hand_of
found-flush n from l s o f hand found = let same : nat_eq from from ≡ true = grind (arith, nat_tests) in rw (found, hand, same) refl

lost-flush : (n : Node) (from : ℕ) (l : LinkId) (s : Side) (o : Option ℕ) → n.hand ≡ Some from → link_router n l s ≡ None →
    deliver n from (messages.Flush l s) o ≡ record n { hand = None }
unfolding deliver handle fits on_found is_hand_of
lost-flush n from l s o hand found = let same : nat_eq from from ≡ true = grind (arith, nat_tests) in rw (found, hand, same) refl

handed-is : (w : World) (n from : ℕ) (m : Message) → mail_at w (way w from n) ≡ mails.Hand m →
    after_act w n (Hand from) ≡ set_mail (set_node w n (deliver (node_at w n) from m (source_for w m))) (way w from n) mails.Empty
unfolding after_act after_hand hand_message
handed-is w n from m in_hand = rw in_hand refl

pub acted-flush : (w : World) (n from : ℕ) (l : LinkId) (s : Side) (f : Found) →
    mail_at w (way w from n) ≡ mails.Hand (messages.Flush l s) → (node_at w n).hand ≡ Some from → link_router (node_at w n) l s ≡ Some f →
    after_act w n (Hand from) ≡ flush_act w from (record { node = n; serial = f.serial }) f.router
acted-flush w n from l s f in_hand hand found =
    handed-is w n from (messages.Flush l s) in_hand ∙ ap (λ x. set_mail (set_node w n x) (way w from n) mails.Empty)
    (found-flush (node_at w n) from l s (source_for w (messages.Flush l s)) f hand found) ∙ sym (freed w n from
    (with_router (node_at w n) f.serial (flushed f.router)))

pub acted-flush_lost : (w : World) (n from : ℕ) (l : LinkId) (s : Side) → mail_at w (way w from n) ≡ mails.Hand (messages.Flush l s) →
    (node_at w n).hand ≡ Some from → link_router (node_at w n) l s ≡ None → after_act w n (Hand from) ≡ free w from n
acted-flush_lost w n from l s in_hand hand found = handed-is w n from (messages.Flush l s) in_hand ∙ ap
    (λ x. set_mail (set_node w n x) (way w from n) mails.Empty)
    (lost-flush (node_at w n) from l s (source_for w (messages.Flush l s)) hand found)

-- the hand of a Flush, whether a router here has the link or not
pub step-flush : (w : World) (b : Books) (g : Records) (n from : ℕ) (l : LinkId) (s : Side) → Inv w b g → n < w.count →
    (node_at w n).hand ≡ Some from → mail_at w (way w from n) ≡ mails.Hand (messages.Flush l s) → Inv (after_act w n (Hand from)) b g
unfolding router_at
step-flush w b g n from l s law ln hand in_hand = go (link_router (node_at w n) l s) refl
  where
    go : (o : Option Found) → link_router (node_at w n) l s ≡ o → Inv (after_act w n (Hand from)) b g
    go None e = subst (λ v. Inv v b g) (sym (acted-flush_lost w n from l s in_hand hand e))
        (inv-flush_lost w b g from n l s law ln in_hand hand)
    go (Some f) e = let t = found_tells (node_at w n) _ f e in subst (λ v. Inv v b g) (sym (acted-flush w n from l s f in_hand hand e))
        (inv-flush w b g from (record { node = n; serial = f.serial }) f.router l s law
        (record { here = t.0; in_hand = in_hand; hand = hand }))

-- a wake that is possible is that of a word's link
pub step-wake : (w : World) (b : Books) (g : Records) (n s : ℕ) (r : Router) → Inv w b g →
    router_at w (record { node = n; serial = s }) ≡ Some r → is_possible r acts.Wake ≡ true → Inv (after_act w n (OfRouter s acts.Wake)) b g
unfolding is_possible word_of
step-wake w b g n s r law here possible = go r.outward.primary refl
  where
    at : (e : LinkEnd) → r.outward.primary ≡ Some e → (o : Option ℕ) → primary_word r ≡ o → Inv (after_act w n (OfRouter s acts.Wake)) b g
    at e p None q = absurd (grind (arith, possible, q))
    at e p (Some i) q = subst (λ v. Inv v b g) (sym (acted-wake w n s i r e here q p))
        (inv-wake w b g (record { node = n; serial = s }) r i e law (record { here = here; possible = possible; word = q }) p)

    go : (o : Option LinkEnd) → r.outward.primary ≡ o → Inv (after_act w n (OfRouter s acts.Wake)) b g
    go None p = absurd (grind (arith, possible, p))
    go (Some e) p = at e p (primary_word r) refl
