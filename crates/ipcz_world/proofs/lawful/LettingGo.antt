-- Ends of words that were let go are held by nobody, and never again.
use Rattle.ipcz_world.proofs.frames.RolesTell.{links-in, positions-in}
use Rattle.std.specs.Prelude.{◌≡◌, ◌≢◌, ◌⊎◌, ◌≤◌, ◌<◌, ℕ, zero, suc, ◌+◌, Bool, true, false, cond, nat_eq, nat_lt, Option, Some, None, is_some, unwrap_or, List, [], ◌∷◌, ◌++◌, length, replicate, slice_get, refl}
use Rattle.std.proofs.Common.{arith, sym, ◌∙◌, ap, subst, inl, inr}
use Rattle.std.proofs.lemmas.Bool.{or_cases, or_left, or_right}
use Rattle.std.proofs.lemmas.Bool.Decides.{nat_tests}
use Rattle.std.proofs.lemmas.Option.{same_Some}
use Rattle.ipcz_world.proofs.Vocabulary.{Side, LinkId, Central, Peripheral, LinkEnd, Edge, Message, Router, RouterAct, Node, router_in, router_has}
use Rattle.ipcz_world.proofs.Vocabulary.{inward_edge, opposite, current_item, outbox, commit, place_at, bare_node, World, Key, way, node_at, mail_at}
use Rattle.ipcz_world.proofs.Vocabulary.{router_at, messages_in, flow, set_node, Books, Records, IsUnderWay, output_of, answer_of, after_act}
use Rattle.ipcz_world.proofs.Vocabulary.{has_link, Owner, Spare, Opening, Fresh, Linked, side_router, is_outward, is_begun, proxy_side, across_side}
use Rattle.ipcz_world.proofs.Vocabulary.{bypass_of, HasLinks, same_side, edge_has, no_edge, outward_has, next_number, apply, leaves_by, Answer}
use Rattle.ipcz_world.proofs.Vocabulary.{without_router, on_router, commit_router, Unclaimed, Lost, is_lost_owner, Routes, after_router_act, touch}
use Rattle.ipcz_world.proofs.Vocabulary.{claim_for_open, Lawful}
use Rattle.ipcz_base.specs.declared.message.Message.TheVariants as messages
use Rattle.ipcz_router.specs.Router.{inward_has}
use Rattle.ipcz_router.specs.ActEffects.{finish_out}
use Rattle.std.specs.Cmp.{nat_cmp_total}
use Rattle.std.specs.FinMap.{get-remove}
use Rattle.ipcz_world.proofs.frames.Frames.{node-set_node, mail-set_node}
use Rattle.ipcz_router.specs.declared.act.RouterAct.TheVariants as acts
use Rattle.ipcz_node.specs.declared.act.Act.TheVariants.{Router as OfRouter}
use Rattle.ipcz_world.specs.Laws.{names_link}
use Rattle.ipcz_world.specs.HeldEnds.{is_spare, router_holds, message_holds, IsEndHeld, ByRouter, ByOpen, ByOutbox, ByMailbox, HeldWereHeld, HeldForOpenWereHeld, LostAreNotHeld, lets_go, LetGoAreNotHeld, AcceptedAreHeld}
use Rattle.ipcz_world.proofs.facts.Tests.{not_both, nat_eq-is, nat_eq-itself, and_first, and_second}
use Rattle.ipcz_world.proofs.facts.Lengths.{HasEnd, has_link-tells, has_link-some, same_side-tells, same_side-itself}
use Rattle.ipcz_world.proofs.facts.LinkTests.{side_is}
use Rattle.ipcz_world.proofs.frames.Having.{has_at}
use Rattle.ipcz_world.proofs.frames.Passing.{passes-tells}
use Rattle.ipcz_world.proofs.frames.Telling.{IsAccept, accept_told}
use Rattle.ipcz_world.proofs.runs.NodeEnds.{Ends, WordEnd, LinkEnds, InwardEnds, SpareEnds, RouterEnds, MessageEnds, BoxEnds, NodeEnds, AppliedEnds, act-ends, discard-ends, retire-ends}
use Rattle.ipcz_world.proofs.runs.HeldSteps.{WorldEnds, hand_flow, step-ends, claim_for_open-ends}

module _ (P : Ends) where
  -- from what is said of what is held, to each end that a test tells of
  link_tells : (o : Option LinkEnd) (i : ℕ) (s : Side) → LinkEnds P o → has_link o (Central i) s ≡ true → P i s
  link_tells o i s law h =
      let e : HasEnd o (Central i) s = has_link-tells o (Central i) s h in
      let at : WordEnd P e.end.link e.end.side = subst (LinkEnds P) e.there law in
      subst (λ t. P i t) e.at_side (subst (λ l. WordEnd P l e.end.side) e.on_link at)

  inward_tells : (o : Option Edge) (i : ℕ) (s : Side) → InwardEnds P o → edge_has (unwrap_or o no_edge) (Central i) s ≡ true → P i s
  unfolding has_link
  inward_tells None i s law h = cc
  inward_tells (Some e) i s law h = go (or_cases _ _ h)
    where
      go : (has_link e.primary (Central i) s ≡ true) ⊎ (has_link e.decaying (Central i) s ≡ true) → P i s
      go (inl t) = link_tells e.primary i s law.0 t
      go (inr t) = link_tells e.decaying i s law.1 t

  spare_tells : (o : Option ℕ) (i : ℕ) (s : Side) → SpareEnds P o → is_spare i o ≡ true → P i s
  unfolding is_spare
  spare_tells None i s law h = cc
  spare_tells (Some j) i s law h = subst (λ k. P k s) (nat_eq-is j i h) (law s)

  router_tells : (r : Router) (i : ℕ) (s : Side) → RouterEnds P r → router_holds i s r ≡ true → P i s
  router_tells r i s law h = go (or_cases _ _ h)
    where
      outer : (has_link r.outward.primary (Central i) s ≡ true) ⊎ (has_link r.outward.decaying (Central i) s ≡ true) → P i s
      outer (inl t) = link_tells r.outward.primary i s law.0.0 t
      outer (inr t) = link_tells r.outward.decaying i s law.0.1 t

      linked : (outward_has r (Central i) s ≡ true) ⊎ (inward_has r (Central i) s ≡ true) → P i s
      linked (inl t) = outer (or_cases _ _ t)
      linked (inr t) = inward_tells r.inward i s law.1.0 t

      go : (router_has r (Central i) s ≡ true) ⊎ (is_spare i r.spare ≡ true) → P i s
      go (inl t) = linked (or_cases _ _ t)
      go (inr t) = spare_tells r.spare i s law.1.1 t

  message_tells : (m : Message) (i : ℕ) (s : Side) → MessageEnds P m → message_holds i s m ≡ true → P i s
  unfolding message_holds
  message_tells (messages.Item link side n item moves) i s law h = cc
  message_tells (messages.BypassPeer link side old target fresh) i s law h = subst (λ k. P k s) (nat_eq-is fresh i h) (law s)
  message_tells (messages.AcceptBypass old side fresh len) i s law h =
      subst (λ k. P k s) (nat_eq-is fresh i (and_first _ _ h)) (subst (P fresh) (same_side-tells side s (and_second _ _ h)) law)
  message_tells (messages.StopProxying side old in_length out_length) i s law h = cc
  message_tells (messages.ProxyWillStop link side in_length) i s law h = cc
  message_tells (messages.Flush link side) i s law h = cc

  box_tells : (ms : List Message) (place : ℕ) (m : Message) → BoxEnds P ms → slice_get ms place ≡ Some m → MessageEnds P m
  box_tells [] place m law h = cc
  box_tells (x ∷ xs) zero m law h = subst (MessageEnds P) (same_Some x m h) law.0
  box_tells (x ∷ xs) (suc i) m law h = box_tells xs i m law.1 h

  pub world_tells : (w : World) (i : ℕ) (s : Side) → WorldEnds P w → IsEndHeld w i s → P i s
  unfolding router_at
  world_tells w i s law (ByRouter k r here holds) = router_tells r i s ((law.node k.node).router k.serial r here) holds
  world_tells w i s law (ByOpen n e) = (subst (SpareEnds P) e (law.node n).opening) s
  world_tells w i s law (ByOutbox from to place m at holds) = message_tells m i s (box_tells _ place m ((law.node from).boxes to) at) holds
  world_tells w i s law (ByMailbox k place m at holds) = message_tells m i s (box_tells _ place m (law.mail k) at) holds

  -- and back
  link_all : (o : Option LinkEnd) → ((i : ℕ) (s : Side) → has_link o (Central i) s ≡ true → P i s) → LinkEnds P o
  link_all None all = tt
  link_all (Some e) all = go e.link refl
    where
      go : (l : LinkId) → e.link ≡ l → WordEnd P l e.side
      go (Central i) is = all i e.side (has_link-some e (Central i) e.side is refl)
      go (Peripheral n x) is = tt

  inward_all : (o : Option Edge) → ((i : ℕ) (s : Side) → edge_has (unwrap_or o no_edge) (Central i) s ≡ true → P i s) → InwardEnds P o
  inward_all None all = tt
  inward_all (Some e) all = (link_all e.primary (λ i s h. all i s (or_left _ _ h)), link_all e.decaying (λ i s h. all i s (or_right _ _ h)))

  spare_all : (o : Option ℕ) → ((i : ℕ) (s : Side) → is_spare i o ≡ true → P i s) → SpareEnds P o
  unfolding is_spare
  spare_all None all = tt
  spare_all (Some i) all = λ s. all i s (nat_eq-itself i)

  pub router_all : (r : Router) → ((i : ℕ) (s : Side) → router_holds i s r ≡ true → P i s) → RouterEnds P r
  router_all r all = (
    (
      link_all r.outward.primary (λ i s h. all i s (or_left _ _ (or_left _ _ (or_left _ _ h)))),
      link_all r.outward.decaying (λ i s h. all i s (or_left _ _ (or_left _ _ (or_right _ _ h)))),
    ),
    (
      inward_all r.inward (λ i s h. all i s (or_left _ _ (or_right _ _ h))),
      spare_all r.spare (λ i s h. all i s (or_right _ _ h)),
    ),
  )

  pub message_all : (m : Message) → ((i : ℕ) (s : Side) → message_holds i s m ≡ true → P i s) → MessageEnds P m
  unfolding message_holds
  message_all (messages.Item link side n item moves) all = tt
  message_all (messages.BypassPeer link side old target fresh) all = λ s. all fresh s (nat_eq-itself fresh)
  message_all (messages.AcceptBypass old side fresh len) all = all fresh side (let a = nat_eq-itself fresh in let c = same_side-itself side in grind (arith, a, c))
  message_all (messages.StopProxying side old in_length out_length) all = tt
  message_all (messages.ProxyWillStop link side in_length) all = tt
  message_all (messages.Flush link side) all = tt

  pub box_all : (ms : List Message) → ((place : ℕ) (m : Message) → slice_get ms place ≡ Some m → MessageEnds P m) → BoxEnds P ms
  box_all [] all = tt
  box_all (x ∷ xs) all = (all 0 x refl, box_all xs (λ i m h. all (suc i) m h))

-- what is held is held
pub all_held : (w : World) (P : Ends) → ((i : ℕ) (s : Side) → IsEndHeld w i s → P i s) → WorldEnds P w
unfolding router_at
all_held w P all = record {
  node = λ n. record {
    router = λ s r here. router_all P r (λ i t h. all i t (ByRouter (record { node = n; serial = s }) r here h));
    opening = opening_all n (node_at w n).opening refl;
    boxes = λ to. box_all P _ (λ place m at. message_all P m (λ i t h. all i t (ByOutbox n to place m at h)));
  };
  mail = λ k. box_all P _ (λ place m at. message_all P m (λ i t h. all i t (ByMailbox k place m at h)));
}
  where
    opening_all : (n : ℕ) (o : Option ℕ) → (node_at w n).opening ≡ o → SpareEnds P o
    opening_all n None e = tt
    opening_all n (Some i) e = λ s. all i s (ByOpen n e)

-- what is held after a step was held, or its word was claimed by it
pub held_were_held : HeldWereHeld
held_were_held w v b g step reply i s law h held = world_tells (λ j t. IsEndHeld w j t ⊎ (w.claimed ≤ j)) v i s
    (step-ends (λ j t. IsEndHeld w j t ⊎ (w.claimed ≤ j)) w b law.records law.inv (all_held w _ (λ j t e. inl e)) (λ t. inr (omega arith))
    v step reply h) held

pub held_for_open_were_held : HeldForOpenWereHeld
held_for_open_were_held w b g n i s law l held = world_tells (λ j t. IsEndHeld w j t ⊎ (w.claimed ≤ j)) (claim_for_open w n) i s
    (claim_for_open-ends (λ j t. IsEndHeld w j t ⊎ (w.claimed ≤ j)) w b law.records law.inv (all_held w _ (λ j t e. inl e)) (λ t. inr (omega arith))
    n) held

-- beyond a list's end
beyond : {X : Type 0} (d : X) (xs : List X) (i : ℕ) → length xs ≤ i → place_at d xs i ≡ d
unfolding place_at
beyond d [] i l = refl
beyond d (x ∷ xs) zero l = absurd (omega (arith, l))
beyond d (x ∷ xs) (suc i) l = beyond d xs i (omega (arith, l))

none_replicated : {X : Type 0} (d : X) (n i : ℕ) → place_at d (replicate n d) i ≡ d
unfolding place_at
none_replicated d zero i = refl
none_replicated d (suc n) zero = refl
none_replicated d (suc n) (suc i) = none_replicated d n i

front : {X : Type 0} (xs ys : List X) (i : ℕ) (x : X) → slice_get xs i ≡ Some x → slice_get (xs ++ ys) i ≡ Some x
front [] ys i x h = cc
front (y ∷ xs) ys zero x h = h
front (y ∷ xs) ys (suc i) x h = front xs ys i x h

back : {X : Type 0} (xs ys : List X) (i j : ℕ) → j ≡ length xs + i → slice_get (xs ++ ys) j ≡ slice_get ys i
back [] ys i j e = let f : j ≡ i = omega (arith, e) in ap (slice_get ys) f
back (x ∷ xs) ys i zero e = absurd (omega (arith, e))
back (x ∷ xs) ys i (suc j) e = back xs ys i j (omega (arith, e))

module _ (w : World) (b : Books) (g : Routes) (law : Lawful w b g) where
  -- what waits, or is in a mailbox, is under way
  bare_box : (n to : ℕ) → w.count ≤ n → outbox (node_at w n) to ≡ []
  unfolding node_at
  bare_box n to l = ap (λ (x : Node). outbox x to) (beyond (bare_node 0 0) w.nodes n (let e = law.bounded.nodes in omega (arith, e, l))) ∙
      none_replicated {X = List Message} [] 256 to

  waits_within : (n to place : ℕ) (m : Message) → slice_get (outbox (node_at w n) to) place ≡ Some m → (n < w.count) × (to < w.count)
  waits_within n to place m at = go (nat_lt n w.count) (nat_lt to w.count) refl refl
    where
      nothing : outbox (node_at w n) to ≡ [] → (n < w.count) × (to < w.count)
      nothing e = absurd (none_at (subst (λ ms. slice_get ms place ≡ Some m) e at))
        where
          none_at : slice_get {X = Message} [] place ≡ Some m → ⊥
          none_at h = cc

      go : (p q : Bool) → nat_lt n w.count ≡ p → nat_lt to w.count ≡ q → (n < w.count) × (to < w.count)
      go false q e f = nothing (bare_box n to (grind (arith, e, nat_tests)))
      go true false e f = nothing (law.bounded.box n to (grind (arith, e, nat_tests)) (grind (arith, f, nat_tests)))
      go true true e f = (grind (arith, e, nat_tests), grind (arith, f, nat_tests))

  pub waits_under_way : (n to place : ℕ) (m : Message) → slice_get (outbox (node_at w n) to) place ≡ Some m →
      IsUnderWay w n to (length (messages_in (mail_at w (way w n to))) + place) m
  unfolding flow
  waits_under_way n to place m at = let t = waits_within n to place m at in record {
    sender = t.0;
    receiver = t.1;
    place = back (messages_in (mail_at w (way w n to))) (outbox (node_at w n) to) place _ refl ∙ at;
  }

  -- what is so of each message under way is so of one in a mailbox
  pub mailed : (k place : ℕ) (m : Message) → slice_get (messages_in (mail_at w k)) place ≡ Some m →
      ((from to i : ℕ) → IsUnderWay w from to i m → ⊥) → ⊥
  unfolding flow messages_in
  mailed k place m at never = none_in (subst (λ x. slice_get (messages_in x) place ≡ Some m) (law.bounded.mail k (λ from to f t e. never from to place
      (record {
        sender = f;
        receiver = t;
        place = front (messages_in (mail_at w (way w from to))) (outbox (node_at w from) to) place m
            (subst (λ j. slice_get (messages_in (mail_at w j)) place ≡ Some m) e at);
      }))) at)
    where
      none_in : slice_get {X = Message} [] place ≡ Some m → ⊥
      none_in h = cc

  pub spare_is : (i : ℕ) (o : Option ℕ) → is_spare i o ≡ true → o ≡ Some i
  unfolding is_spare
  spare_is i None h = cc
  spare_is i (Some j) h = ap Some (nat_eq-is j i h)

  -- whose the word is of which a message brings an end
  brought : (from to place : ℕ) (m : Message) (i : ℕ) (s : Side) → IsUnderWay w from to place m → message_holds i s m ≡ true →
      (law.word_law.owner i ≡ Linked) ⊎ ((old : ℕ) × (law.word_law.owner i ≡ Fresh old))
  unfolding message_holds names_link
  brought from to place (messages.Item link side n item moves) i s u h = cc
  brought from to place (messages.BypassPeer link side old target fresh) i s u h =
      inr (
        old,
        law.word_law.fresh from to place link side old target i
            (subst (λ f. IsUnderWay w from to place (messages.BypassPeer link side old target f)) (nat_eq-is fresh i h) u),
      )
  brought from to place (messages.AcceptBypass old side fresh len) i s u h =
      inl (law.word_law.named from to place (messages.AcceptBypass old side fresh len) i u (or_right (nat_eq old i) (nat_eq fresh i) (and_first _ _ h)))
  brought from to place (messages.StopProxying side old in_length out_length) i s u h = cc
  brought from to place (messages.ProxyWillStop link side in_length) i s u h = cc
  brought from to place (messages.Flush link side) i s u h = cc

  -- what a word is used for of which an end is held
  abbrev in_use : Owner → Type 0
  in_use o = (o ≡ Unclaimed → ⊥) × (o ≡ Lost → ⊥)

  linked_used : (o : Owner) → o ≡ Linked → in_use o
  linked_used o e = (λ f. cc, λ f. cc)

  spare_used : (o : Owner) (k : Key) → o ≡ Spare k → in_use o
  spare_used o k e = (λ f. cc, λ f. cc)

  opening_used : (o : Owner) (n : ℕ) → o ≡ Opening n → in_use o
  opening_used o n e = (λ f. cc, λ f. cc)

  fresh_used : (o : Owner) (old : ℕ) → o ≡ Fresh old → in_use o
  fresh_used o old e = (λ f. cc, λ f. cc)

  brought_used : (i : ℕ) → (law.word_law.owner i ≡ Linked) ⊎ ((old : ℕ) × (law.word_law.owner i ≡ Fresh old)) → in_use (law.word_law.owner i)
  brought_used i (inl e) = linked_used _ e
  brought_used i (inr (old, e)) = fresh_used _ old e

  held_used : (i : ℕ) (s : Side) → IsEndHeld w i s → (in_use (law.word_law.owner i) → ⊥) → ⊥
  held_used i s (ByRouter k r here h) never = go (or_cases _ _ h)
    where
      go : (router_has r (Central i) s ≡ true) ⊎ (is_spare i r.spare ≡ true) → ⊥
      go (inl t) = never (linked_used _ (law.word_law.linked k r i s here t))
      go (inr t) = never (spare_used _ k (law.word_law.spare k r i here (spare_is i r.spare t)))
  held_used i s (ByOpen n e) never = never (opening_used _ n (law.word_law.opening n i e))
  held_used i s (ByOutbox from to place m at h) never =
      never (brought_used i (brought from to _ m i s (waits_under_way from to place m at) h))
  held_used i s (ByMailbox k place m at h) never =
      mailed k place m at (λ from to j u. never (brought_used i (brought from to j m i s u h)))

  lost_is : (o : Owner) → is_lost_owner o ≡ true → o ≡ Lost
  unfolding is_lost_owner
  lost_is Unclaimed e = cc
  lost_is (Spare k) e = cc
  lost_is (Opening n) e = cc
  lost_is (Fresh o) e = cc
  lost_is Linked e = cc
  lost_is Lost e = refl

  pub lost_not_held : (i : ℕ) (s : Side) → (w.claimed ≤ i) ⊎ (g.lost i ≡ true) → IsEndHeld w i s → ⊥
  lost_not_held i s (inl l) held = held_used i s held (λ used. used.0 (law.word_law.unclaimed i l))
  lost_not_held i s (inr e) held = held_used i s held (λ used. used.1 (lost_is _ (law.word_law.is_lost i ∙ e)))

  -- a router that holds an end
  module _ (k : Key) (r : Router) (here : router_at w k ≡ Some r) (i : ℕ) (s : Side) where
    -- its word is a link's, or its spare
    abbrev pub Held : Type 0
    Held = (router_has r (Central i) s ≡ true) ⊎ (r.spare ≡ Some i)

    pub held_as : router_holds i s r ≡ true → Held
    held_as h = go (or_cases _ _ h)
      where
        go : (router_has r (Central i) s ≡ true) ⊎ (is_spare i r.spare ≡ true) → Held
        go (inl t) = inl t
        go (inr t) = inr (spare_is i r.spare t)

    linked_one : router_has r (Central i) s ≡ true → law.word_law.owner i ≡ Linked
    linked_one has = law.word_law.linked k r i s here has

    spare_one : r.spare ≡ Some i → law.word_law.owner i ≡ Spare k
    spare_one e = law.word_law.spare k r i here e

    apart_owners : (o : Owner) (q : Key) → o ≡ Linked → o ≡ Spare q → ⊥
    apart_owners o q e f = cc

    same_spare : (o : Owner) (p q : Key) → o ≡ Spare p → o ≡ Spare q → p ≡ q
    same_spare o p q e f = cc

    -- no other router does
    pub sole_router : Held → (q : Key) (z : Router) → router_at w q ≡ Some z → router_holds i s z ≡ true → q ≡ k
    sole_router mine q z at h = go mine (or_cases _ _ h)
      where
        go : Held → (router_has z (Central i) s ≡ true) ⊎ (is_spare i z.spare ≡ true) → q ≡ k
        go (inl a) (inl t) = law.word_law.one_each q k z r i s at here t a
        go (inl a) (inr t) = absurd (apart_owners _ q (linked_one a) (law.word_law.spare q z i at (spare_is i z.spare t)))
        go (inr a) (inl t) = absurd (apart_owners _ k (law.word_law.linked q z i s at t) (spare_one a))
        go (inr a) (inr t) = same_spare _ q k (law.word_law.spare q z i at (spare_is i z.spare t)) (spare_one a)

    -- no open under way
    pub sole_open : Held → (n : ℕ) → (node_at w n).opening ≡ Some i → ⊥
    sole_open mine n e = go mine (law.word_law.opening n i e)
      where
        go : Held → law.word_law.owner i ≡ Opening n → ⊥
        go (inl a) f = let c = linked_one a in two _ c f
          where
            two : (o : Owner) → o ≡ Linked → o ≡ Opening n → ⊥
            two o c d = cc
        go (inr a) f = let c = spare_one a in two _ c f
          where
            two : (o : Owner) → o ≡ Spare k → o ≡ Opening n → ⊥
            two o c d = cc

    -- and no message brings it
    pub sole_told : Held → (from to place : ℕ) (m : Message) → IsUnderWay w from to place m → message_holds i s m ≡ true → ⊥
    unfolding message_holds names_link
    sole_told mine from to place (messages.Item link side n item moves) u h = cc
    sole_told mine from to place (messages.BypassPeer link side old target fresh) u h = go mine (law.word_law.fresh from to place link side old target i
        (subst (λ f. IsUnderWay w from to place (messages.BypassPeer link side old target f)) (nat_eq-is fresh i h) u))
      where
        go : Held → law.word_law.owner i ≡ Fresh old → ⊥
        go (inl a) f = let c = linked_one a in two _ c f
          where
            two : (o : Owner) → o ≡ Linked → o ≡ Fresh old → ⊥
            two o c d = cc
        go (inr a) f = let c = spare_one a in two _ c f
          where
            two : (o : Owner) → o ≡ Spare k → o ≡ Fresh old → ⊥
            two o c d = cc
    sole_told mine from to place (messages.AcceptBypass old side fresh len) u h = go mine
      where
        rec : Records
        rec = law.records

        at : IsAccept rec from to old side fresh len
        at = accept_told w rec from to place old side fresh len law.inv.controls u

        none : side_router rec (Central (rec.bypass old).fresh) (across_side rec old) ≡ None
        none = (law.inv.bypasses old).fresh_awaited at.stage

        onto : (rec.bypass old).fresh ≡ i
        onto = sym at.onto ∙ nat_eq-is fresh i (and_first (nat_eq fresh i) (same_side side s) h)

        side_here : across_side rec old ≡ s
        side_here = sym at.at_side ∙ same_side-tells side s (and_second (nat_eq fresh i) (same_side side s) h)

        awaited : side_router rec (Central i) s ≡ None
        awaited = subst (λ t. side_router rec (Central i) t ≡ None) side_here
            (subst (λ n. side_router rec (Central n) (across_side rec old) ≡ None) onto none)

        two : (o : Option Key) → o ≡ None → o ≡ Some k → ⊥
        two o c d = cc

        go : Held → ⊥
        go (inl a) = two _ awaited (has_at w rec k r (Central i) s (links-in law.inv) here a).router
        go (inr a) = apart_owners _ k (law.word_law.named from to place (messages.AcceptBypass old side fresh len) i u
            (or_right (nat_eq old i) (nat_eq fresh i) (and_first (nat_eq fresh i) (same_side side s) h))) (spare_one a)
    sole_told mine from to place (messages.StopProxying side old in_length out_length) u h = cc
    sole_told mine from to place (messages.ProxyWillStop link side in_length) u h = cc
    sole_told mine from to place (messages.Flush link side) u h = cc

-- an act that lets an end go
module _ (w : World) (b : Books) (g : Routes) (law : Lawful w b g) (n serial : ℕ) (ln : n < w.count) (r : Router)
    (here : router_at w (record { node = n; serial = serial }) ≡ Some r) (i : ℕ) (s : Side) where
  abbrev k : Key
  k = record { node = n; serial = serial }

  -- not this end
  abbrev Other : Ends
  Other j t = ((j ≡ i) × (t ≡ s)) → ⊥

  other_ends : (test : ℕ → Side → Bool) → (test i s ≡ true → ⊥) → (j : ℕ) (t : Side) → test j t ≡ true → Other j t
  other_ends test never j t h (e, f) = never (subst (λ u. test i u ≡ true) f (subst (λ m. test m t ≡ true) e h))

  module _ (mine : Held w b g law k r here i s) where
    told_other : (from to place : ℕ) (m : Message) → IsUnderWay w from to place m → MessageEnds Other m
    told_other from to place m u = message_all Other m
        (other_ends (λ j t. message_holds j t m) (sole_told w b g law k r here i s mine from to place m u))

    box_other : (m to : ℕ) → BoxEnds Other (outbox (node_at w m) to)
    box_other m to = box_all Other _ (λ place x at. told_other m to _ x (waits_under_way w b g law m to place x at))

    opening_other : (m : ℕ) (o : Option ℕ) → (node_at w m).opening ≡ o → SpareEnds Other o
    opening_other m None e = tt
    opening_other m (Some j) e = λ t p. sole_open w b g law k r here i s mine m (e ∙ ap Some p.0)

    node_other : (m : ℕ) → m ≢ n → NodeEnds Other (node_at w m)
    unfolding router_at
    node_other m ne = record {
      router = λ t q at. router_all Other q (other_ends (λ j u. router_holds j u q)
          (λ h. ne (ap (λ (x : Key). x.node) (sole_router w b g law k r here i s mine (record { node = m; serial = t }) q at h))));
      opening = opening_other m (node_at w m).opening refl;
      boxes = box_other m;
    }

    without_other : NodeEnds Other (without_router (node_at w n) serial)
    unfolding router_at
    without_other = record {
      router = λ t q at. go t q at (nat_eq t serial) refl;
      opening = opening_other n (node_at w n).opening refl;
      boxes = box_other n;
    }
      where
        go : (t : ℕ) (q : Router) → router_in (without_router (node_at w n) serial) t ≡ Some q → (c : Bool) → nat_eq t serial ≡ c → RouterEnds Other q
        go t q at true e = absurd (grind (arith, e, get-remove nat_cmp_total (node_at w n).routers serial t, at, nat_tests))
        go t q at false e = router_all Other q (other_ends (λ j u. router_holds j u q) (λ h.
            let there : router_in (node_at w n) t ≡ Some q = grind (arith, e, get-remove nat_cmp_total (node_at w n).routers serial t, at, nat_tests) in
            let same : t ≡ serial = ap (λ (x : Key). x.serial) (sole_router w b g law k r here i s mine (record { node = n; serial = t }) q there h) in
            not_both (nat_eq t serial) (ap (λ x. nat_eq x serial) same ∙ nat_eq-itself serial) e))

    mail_other : (m : ℕ) → BoxEnds Other (messages_in (mail_at w m))
    mail_other m = box_all Other _ (λ place x at. message_all Other x (other_ends (λ j t. message_holds j t x)
        (λ h. mailed w b g law m place x at (λ from to j u. sole_told w b g law k r here i s mine from to j x u h))))

    -- the world with another node, which holds other ends
    world_other : (y : Node) → NodeEnds Other y → WorldEnds Other (set_node w n y)
    world_other y is = record {
      node = λ j. subst (NodeEnds Other) (sym (node-set_node w n y j)) (go j (nat_eq j n) refl);
      mail = λ m. subst (λ x. BoxEnds Other (messages_in x)) (sym (mail-set_node w n y m)) (mail_other m);
    }
      where
        go : (j : ℕ) (c : Bool) → nat_eq j n ≡ c → NodeEnds Other (cond c y (node_at w j))
        go j true e = is
        go j false e = node_other j (λ f. not_both (nat_eq j n) (ap (λ x. nat_eq x n) f ∙ nat_eq-itself n) e)

    committed_other : (act : RouterAct) (a : Answer) → (leaves_by r act ≡ false → RouterEnds Other (apply r act a)) →
        AppliedEnds Other (output_of r act) → WorldEnds Other (set_node w n (commit (node_at w n) (OfRouter serial act) a))
    unfolding commit on_router router_at
    committed_other act a stays given = world_other _
        (subst (λ o. NodeEnds Other (on_router (node_at w n) o (commit_router (node_at w n) serial act a))) (sym here)
        (act-ends Other (node_at w n) serial act a r without_other stays given))

  -- what has the end of a word's link isn't inward
  not_inward : (l : LinkId) (t : Side) → l ≡ Central i → is_outward l t ≡ false → ⊥
  unfolding is_outward
  not_inward (Central j) t e o = cc
  not_inward (Peripheral m x) t e o = cc

  -- a central link that decays isn't primary as well
  not_primary : has_link r.outward.decaying (Central i) s ≡ true → has_link r.outward.primary (Central i) s ≡ true → ⊥
  unfolding bypass_of
  not_primary gone kept = go (side_is s (proxy_side law.records i))
    where
      d : HasEnd r.outward.decaying (Central i) s
      d = has_link-tells r.outward.decaying (Central i) s gone

      p : HasEnd r.outward.primary (Central i) s
      p = has_link-tells r.outward.primary (Central i) s kept

      by : is_some (bypass_of law.records (Central i)) ≡ true
      by = subst (λ l. is_some (bypass_of law.records l) ≡ true) d.on_link (((positions-in law.inv).each k r here).decaying d.end d.there)

      begun : is_begun (law.records.bypass i) ≡ true
      begun = some_if (is_begun (law.records.bypass i)) by
        where
          some_if : (c : Bool) → is_some (cond c (Some i) None) ≡ true → c ≡ true
          some_if true h = refl
          some_if false h = cc

      none_some : (o : Option LinkEnd) (e : LinkEnd) → o ≡ None → o ≡ Some e → ⊥
      none_some o e c f = cc

      go : (s ≡ proxy_side law.records i) ⊎ (s ≡ opposite (proxy_side law.records i)) → ⊥
      go (inl e) = none_some _ p.end (((positions-in law.inv).each k r here).own_alone d.end i d.there d.on_link (d.at_side ∙ e)) p.there
      go (inr e) =
          let far : 3 ≤ (law.records.bypass i).stage = ((positions-in law.inv).each k r here).across_stage d.end i d.there d.on_link (d.at_side ∙ e) in
          let near : (law.records.bypass i).stage ≤ 2 = ((positions-in law.inv).each k r here).primary_old p.end i p.there p.on_link begun in
          omega (arith, far, near)

  -- after a router has given up its decaying link it has not the end
  finished_other : has_link r.outward.decaying (Central i) s ≡ true → RouterEnds Other (finish_out r)
  finished_other gone = (
    (link_all Other r.outward.primary (other_ends (λ j t. has_link r.outward.primary (Central j) t) (not_primary gone)), tt),
    (
      inward_all Other r.inward (other_ends (λ j t. edge_has (unwrap_or r.inward no_edge) (Central j) t) (λ h. inner (or_cases _ _ h))),
      spare_all Other r.spare (other_ends (λ j t. is_spare j r.spare)
          (λ h. apart_owners w b g law k r here i s _ k (linked_one w b g law k r here i s had) (spare_one w b g law k r here i s (spare_is w b g law i r.spare h)))),
    ),
  )
    where
      had : router_has r (Central i) s ≡ true
      had = or_left _ _ (or_right _ _ gone)

      links : HasLinks w law.records k r
      links = (links-in law.inv) k r here

      inner : (has_link (inward_edge r).primary (Central i) s ≡ true) ⊎ (has_link (inward_edge r).decaying (Central i) s ≡ true) → ⊥
      inner (inl h) = let e : HasEnd (inward_edge r).primary (Central i) s = has_link-tells (inward_edge r).primary (Central i) s h in
          not_inward e.end.link e.end.side e.on_link (links.inward_primary_inward e.end e.there)
      inner (inr h) = let e : HasEnd (inward_edge r).decaying (Central i) s = has_link-tells (inward_edge r).decaying (Central i) s h in
          not_inward e.end.link e.end.side e.on_link (links.inward_decaying_inward e.end e.there)

  leaves_other : (act : RouterAct) (a : Answer) → leaves_by r act ≡ true → leaves_by r act ≡ false → RouterEnds Other (apply r act a)
  leaves_other act a e f = absurd (not_both (leaves_by r act) e f)

  pub let_go_router : (act : RouterAct) → lets_go i s r act ≡ true → IsEndHeld (after_router_act w n serial act (Some r)) i s → ⊥
  unfolding lets_go after_router_act touch output_of leaves_by apply
  let_go_router acts.FinishOut gone held = world_tells Other _ i s (committed_other (inl (or_left _ _ (or_right _ _ gone))) acts.FinishOut (answer_of w r acts.FinishOut)
      (λ e. finished_other gone) tt) held (refl, refl)
  let_go_router acts.Leave gone held = world_tells Other _ i s (committed_other (held_as w b g law k r here i s gone) acts.Leave (answer_of w r acts.Leave)
      (leaves_other acts.Leave (answer_of w r acts.Leave) refl) tt) held (refl, refl)
  let_go_router acts.Retire gone held = world_tells Other _ i s (committed_other (held_as w b g law k r here i s gone) acts.Retire (answer_of w r acts.Retire)
      (leaves_other acts.Retire (answer_of w r acts.Retire) refl) (retire-ends Other r.outward.primary (next_number r))) held (refl, refl)
  let_go_router acts.Discard gone held = world_tells Other _ i s (committed_other (held_as w b g law k r here i s (and_second _ _ gone)) acts.Discard (answer_of w r acts.Discard)
      (leaves_other acts.Discard (answer_of w r acts.Discard) (and_first _ _ gone)) (discard-ends Other r.in_queue.current (current_item r.in_queue))) held (refl, refl)
  let_go_router other gone held = cc

pub lost_are_not_held : LostAreNotHeld
lost_are_not_held w b g i s law why held = lost_not_held w b g law i s why held

pub let_go_are_not_held : LetGoAreNotHeld
unfolding after_act
let_go_are_not_held w b g n serial r act i s law ln here can gone held =
    let_go_router w b g law n serial ln r here i s act gone (subst (λ o. IsEndHeld (after_router_act w n serial act o) i s) here held)

-- the router across has the old link of an AcceptBypass
pub accepted_are_held : AcceptedAreHeld
accepted_are_held w b g n from old side fresh len law ln lf hand =
    let u : IsUnderWay w from n 0 (messages.AcceptBypass old side fresh len) =
    record { sender = lf; receiver = ln; place = hand_flow w from n (mail_at w (way w from n)) _ refl hand } in
    let at : IsAccept law.records from n old side fresh len = accept_told w law.records from n 0 old side fresh len law.inv.controls u in
    let p = passes-tells w _ _ ((law.inv.stages old).across_old (grind (arith, at.stage, nat_tests)) (omega (arith, at.stage))) in
    ByRouter p.key p.router p.here (or_left _ _ (or_left _ _ (or_left _ _
    (subst (λ t. has_link p.router.outward.primary (Central old) t ≡ true) (sym at.at_side) p.passed))))
