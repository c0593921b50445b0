-- Acts on a word leave a waker to who has tried on its link: mark, lock, unlock and wake.
use Rattle.ipcz_world.proofs.frames.RolesTell.{links-in}
use Rattle.std.specs.Prelude.{◌≡◌, ◌⊎◌, ◌&&◌, ℕ, Bool, true, false, ◌||◌, not, cond, if◌then◌else◌, Option, Some, None, is_some, refl}
use Rattle.std.proofs.Common.{arith, ap, sym, ◌∙◌, subst, inl, inr}
use Rattle.std.proofs.lemmas.Option.{same_Some, none-some}
use Rattle.ipcz_world.proofs.Vocabulary.{Side, A, B, LinkId, Central, Peripheral, LinkEnd, has, opposite, Router, is_possible, primary_word, word_of}
use Rattle.ipcz_world.proofs.Vocabulary.{World, Key, word_at, router_at, Books, Records, Inv, has_primary, Word, has_link, side_node, IsRecorded}
use Rattle.ipcz_world.proofs.Vocabulary.{side_end, same_key, side_router, Plan, Locks, Waits, Refuses, plan_of, FlagsAgree, key_at, is_done, is_proxy}
use Rattle.ipcz_world.proofs.Vocabulary.{decays, is_on_central}
use Rattle.ipcz_base.specs.declared.message.Message.TheVariants as messages
use Rattle.ipcz_word.specs.Word.{is_held, mark, lock, wait}
use Rattle.ipcz_word.specs.SideSets.{has-with_here, has-without_apart}
use Rattle.ipcz_word.specs.SideSets.{opposite_opposite, not_opposite}
use Rattle.ipcz_router.specs.ActEffects.{mark_side, wake_other, take_lock, fail_lock, drop_lock}
use Rattle.ipcz_router.specs.declared.act.RouterAct.TheVariants as acts
use Rattle.ipcz_world.specs.Owed.{HasFlush, PrimaryPasses, HasWaker, HaveWakers}
use Rattle.ipcz_world.specs.Laws.{LinkLaw}
use Rattle.ipcz_world.proofs.lawful.LinkLaws.{link_law, on_tells}
use Rattle.ipcz_world.proofs.facts.Lengths.{HasEnd, has_link-tells, side_is, has_link-some}
use Rattle.ipcz_world.proofs.frames.Frames.{same_key_tells}
use Rattle.ipcz_world.proofs.lawful.Following.{IsAble, able-tells, able-is}
use Rattle.ipcz_world.proofs.lawful.Following.{IsReadyProxy}
use Rattle.ipcz_world.proofs.lawful.Moving.{Stays, Never}
use Rattle.ipcz_world.proofs.lawful.Tracking.{HaveWakersOn}
use Rattle.ipcz_world.specs.WordAnswers.{tells_waiting, woken}

-- what a plan tells of the word
pub record IsPlan (x : Word) (s : Side) (plan : Plan) : Type 0 where
  pub waits : plan ≡ Waits → has x.stable (opposite s) ≡ false
  pub refuses : plan ≡ Refuses → has x.stable s ≡ true → is_held x ≡ true

plan-tells : (x : Word) (s : Side) → IsPlan x s (plan_of x s)
unfolding plan_of
plan-tells x s = go (is_held x) (has x.stable s) (has x.stable (opposite s)) refl refl refl
  where
    go : (a b c : Bool) → is_held x ≡ a → has x.stable s ≡ b → has x.stable (opposite s) ≡ c →
        IsPlan x s (if a || not b then Refuses else if c then Locks else Waits)
    go true b c e f g = record { waits = λ q. cc; refuses = λ q h. e }
    go false false c e f g = record { waits = λ q. cc; refuses = λ q h. absurd (grind (arith, f, h)) }
    go false true true e f g = record { waits = λ q. cc; refuses = λ q h. cc }
    go false true false e f g = record { waits = λ q. g; refuses = λ q h. cc }

other-held : (x : Word) (s : Side) → is_held x ≡ true → has x.holder s ≡ false → has x.holder (opposite s) ≡ true
other-held x A h e = grind (arith, h, e)
other-held x B h e = grind (arith, h, e)

not_both : {X : Type 0} (c : Bool) → c ≡ true → c ≡ false → X
not_both true e f = cc
not_both false e f = cc

-- a router of the world becomes another by an act on the word of its link
pub record IsOnWord (w v : World) (k : Key) (r y : Router) (i : ℕ) (x : Word) : Type 0 where
  pub here : router_at w k ≡ Some r
  pub routers : (q : Key) → router_at v q ≡ cond (same_key q k) (Some y) (router_at w q)
  pub word : word_at v i ≡ x
  pub stays : Stays Never w v
  pub link : primary_word r ≡ Some i
  pub outward : y.outward ≡ r.outward

module _ (w v : World) (b : Books) (g : Records) (law : Inv w b g) (flags : FlagsAgree w) (k : Key) (r y : Router) (i : ℕ) (x : Word)
    (is : IsOnWord w v k r y i x) (wakers : HaveWakers w) where
  links : LinkLaw w
  links = link_law w b g law

  abbrev pub t : Side
  t = r.end.side

  -- the router's side of the word is that of its end
  pub own_link : (e : LinkEnd) × (r.outward.primary ≡ Some e) × (e.link ≡ Central i)
  unfolding word_of
  own_link = go r.outward.primary refl is.link
    where
      go : (o : Option LinkEnd) → r.outward.primary ≡ o → word_of o ≡ Some i → (e : LinkEnd) × (r.outward.primary ≡ Some e) ×
          (e.link ≡ Central i)
      go None e f = cc
      go (Some z) e f = (z, e, at z.link refl)
        where
          at : (l : LinkId) → z.link ≡ l → z.link ≡ Central i
          at (Central j) q = let n : j ≡ i = same_Some j i (sym (word-is z j q) ∙ f) in q ∙ ap Central n
            where
              word-is : (z : LinkEnd) (j : ℕ) → z.link ≡ Central j → word_of (Some z) ≡ Some j
              word-is z j q = rw q refl
          at (Peripheral n c) q = absurd (none-some i (sym (word-none z n c q) ∙ f))
            where
              word-none : (z : LinkEnd) (n c : ℕ) → z.link ≡ Peripheral n c →
                  word_of (Some z) ≡ None
              word-none z n c q = rw q refl

  own_side : own_link.0.side ≡ t
  unfolding side_end
  own_side =
      let rec : IsRecorded w g k r own_link.0 = ((links-in law) k r is.here).primary own_link.0 own_link.1 in
      sym (ap (λ e. e.side) (rec.end ∙ ap (λ l. side_end g l own_link.0.side) own_link.2))

  own_on : has_primary (Central i) t r ≡ true
  own_on = ap (λ o. has_link o (Central i) t) own_link.1 ∙ has_link-some own_link.0 (Central i) t own_link.2 own_side

  -- a side of the link at which it stands is its own
  only_side : (s : Side) → has_primary (Central i) s r ≡ true → s ≡ t
  only_side s on =
      let e : HasEnd r.outward.primary (Central i) s = has_link-tells r.outward.primary (Central i) s on in
      let same : own_link.0 ≡ e.end = same_Some own_link.0 e.end (sym own_link.1 ∙ e.there) in
      sym e.at_side ∙ ap (λ z. z.side) (sym same) ∙ own_side

  there : router_at v k ≡ Some y
  there = grind (arith, is.routers k, same_key_tells)

  y_on : (s : Side) → has_primary (Central i) s y ≡ has_primary (Central i) s r
  y_on s = ap (λ e. has_link e.primary (Central i) s) is.outward

  -- a router now is this one, or another as it was, on the other side of the link
  abbrev Was : Key → Router → Type 0
  Was q z = ((q ≡ k) × (z ≡ y)) ⊎ ((q ≡ k → ⊥) × (router_at w q ≡ Some z))

  was : (q : Key) (z : Router) → router_at v q ≡ Some z → Was q z
  was q z at = elim (same_key_tells q k) [
    | inl e ↦ inl (e.1, same_Some z y (sym at ∙ is.routers q ∙ ap (λ c. cond c (Some y) (router_at w q)) e.0))
    | inr e ↦ inr (e.1, sym (is.routers q ∙ ap (λ c. cond c (Some y) (router_at w q)) e.0) ∙ at)
  ]

  -- another router is as it was
  stays_there : (q : Key) (z : Router) → (q ≡ k → ⊥) → router_at w q ≡ Some z → router_at v q ≡ Some z
  stays_there q z apart at = elim (same_key_tells q k) [
    | inl e ↦ absurd (apart e.1)
    | inr e ↦ is.routers q ∙ ap (λ c. cond c (Some y) (router_at w q)) e.0 ∙ at
  ]

  -- another router on the link is on the other side
  across : (q : Key) (z : Router) (s : Side) → (q ≡ k → ⊥) → router_at w q ≡ Some z → has_primary (Central i) s z ≡ true → s ≡ opposite t
  across q z s apart at on = elim (side_is s t) [
    | inl e ↦ absurd (apart (links.one_each q k z r i s at is.here on (subst (λ d. has_primary (Central i) d r ≡ true) (sym e.1) own_on)))
    | inr e ↦ e.1
  ]

  -- who passes a test on this router's side is this router
  own_passes : (s : Side) (test : Router → Bool) → opposite s ≡ t → PrimaryPasses w i (opposite s) test → test r ≡ true
  own_passes s test e p =
      let on : has_primary (Central i) t p.router ≡ true = subst (λ d. has_primary (Central i) d p.router ≡ true) e p.on in
      let key : p.key ≡ k = links.one_each p.key k p.router r i t p.here is.here on own_on in
      subst (λ z. test z ≡ true) (same_Some p.router r (sym p.here ∙ ap (router_at w) key ∙ is.here)) p.passes

  -- who passes a test on the other side does so still
  other_passes : (test : Router → Bool) → PrimaryPasses w i (opposite t) test → PrimaryPasses v i (opposite t) test
  other_passes test p = record {
    key = p.key;
    router = p.router;
    here = stays_there p.key p.router apart p.here;
    on = p.on;
    passes = p.passes;
  }
    where
      apart : p.key ≡ k → ⊥
      apart e =
          let same : p.router ≡ r = same_Some p.router r (sym p.here ∙ ap (router_at w) e ∙ is.here) in
          not_opposite t (only_side (opposite t) (subst (λ z. has_primary (Central i) (opposite t) z ≡ true) same p.on))

  flush : (s : Side) (n : ℕ) → HasFlush w i s n → HasFlush v i s n
  flush s n f = elim (is.stays f.from n f.place (messages.Flush (Central i) s) f.under_way) [
    | inl z ↦ record { from = f.from; place = z.0; under_way = z.1 }
    | inr z ↦ absurd z
  ]

  marked_is : r.marked ≡ has (word_at w i).stable t
  marked_is = links.marked k r i t is.here own_on

  holds_is : r.holds ≡ has (word_at w i).holder t
  holds_is = links.holds k r i t is.here own_on

  -- it is enough to look at this router and at the one on the other side
  by_sides : (y.tried ≡ true → HasWaker v i t k.node) →
      ((q : Key) (z : Router) → (q ≡ k → ⊥) → router_at w q ≡ Some z → z.tried ≡ true → has_primary (Central i) (opposite t) z ≡ true →
      HasWaker w i (opposite t) q.node → HasWaker v i (opposite t) q.node) → HaveWakersOn i v
  by_sides own other q z s at tried on = elim (was q z at) [
    | inl e ↦
        let side : s ≡ t = only_side s (sym (y_on s) ∙ subst (λ a. has_primary (Central i) s a ≡ true) e.1 on) in
        subst (λ d. HasWaker v i d q.node) (sym side)
        (subst (λ a. HasWaker v i t a.node) (sym e.0) (own (subst (λ a. a.tried ≡ true) e.1 tried)))
    | inr e ↦
        let side : s ≡ opposite t = across q z s e.0 e.1 on in
        let on_other : has_primary (Central i) (opposite t) z ≡ true = subst (λ d. has_primary (Central i) d z ≡ true) side on in
        subst (λ d. HasWaker v i d q.node) (sym side) (other q z e.0 e.1 tried on_other (wakers i q z (opposite t) e.1 tried on_other))
  ]

  -- mark
  pub wakers-mark : y ≡ mark_side r (tells_waiting (word_at w i) t) → x ≡ mark (word_at w i) t → r.marked ≡ false → HaveWakersOn i v
  wakers-mark is_y is_x bare = by_sides
      (λ h. not_both r.marked (flags.tried_marked k r is.here (sym (ap (λ z. z.tried) is_y) ∙ h)) bare) other
    where
      holder : (s : Side) → has (word_at v i).holder s ≡ has (word_at w i).holder s
      holder s = ap (λ z. has z.holder s) (is.word ∙ is_x)

      waiting : (s : Side) → has (word_at v i).waiting s ≡ has (word_at w i).waiting s
      waiting s = ap (λ z. has z.waiting s) (is.word ∙ is_x)

      other : (q : Key) (z : Router) → (q ≡ k → ⊥) → router_at w q ≡ Some z → z.tried ≡ true → has_primary (Central i)
          (opposite t) z ≡ true →
          HasWaker w i (opposite t) q.node → HasWaker v i (opposite t) q.node
      other q z apart at tried on (inl h) = inl (holder (opposite (opposite t)) ∙ h)
      other q z apart at tried on (inr (inl f)) = inr (inl (flush (opposite t) q.node f))
      other q z apart at tried on (inr (inr (inl p))) =
          not_both r.marked (able-tells r (own_passes (opposite t) (λ r. is_possible r acts.Lock) (opposite_opposite t) p)).marked bare
      other q z apart at tried on (inr (inr (inr (waits, more)))) = inr (inr (inr (
        waiting (opposite t) ∙ waits,
        inr (record {
          key = k;
          router = y;
          here = there;
          on = y_on (opposite (opposite t)) ∙ subst (λ d. has_primary (Central i) d r ≡ true) (sym (opposite_opposite t)) own_on;
          passes = ap (λ z. z.wake_owed) is_y ∙ waits;
        }),
      )))

  -- a lock that is got
  pub wakers-locked : y ≡ take_lock r → (source : Option ℕ) → x ≡ lock (word_at w i) t source → r.tried ≡ false → HaveWakersOn i v
  wakers-locked is_y source is_x untried = by_sides (λ h. not_both r.tried (sym (ap (λ z. z.tried) is_y) ∙ h) untried)
      (λ q z apart at tried on m. inl (ap (λ a. has a.holder (opposite (opposite t))) (is.word ∙ is_x)
      ∙ has-with_here (word_at w i).holder t (opposite (opposite t)) (opposite_opposite t)))

  -- a try that fails
  pub wakers-waits : plan_of (word_at w i) t ≡ Waits → y ≡ fail_lock r → x ≡ wait (word_at w i) t → HaveWakersOn i v
  wakers-waits plan is_y is_x = by_sides
      (λ h. inr (inr (inr (
        ap (λ a. has a.waiting t) (is.word ∙ is_x) ∙ has-with_here (word_at w i).waiting t t refl,
        inl (ap (λ a. has a.stable (opposite t)) (is.word ∙ is_x) ∙ unstable),
      ))))
      (λ q z apart at tried on m. not_both (has (word_at w i).stable (opposite t))
      (sym (links.marked q z i (opposite t) at on) ∙ flags.tried_marked q z at tried) unstable)
    where
      unstable : has (word_at w i).stable (opposite t) ≡ false
      unstable = (plan-tells (word_at w i) t).waits plan

  pub wakers-refused : plan_of (word_at w i) t ≡ Refuses → y ≡ fail_lock r → x ≡ word_at w i → r.marked ≡ true → r.holds ≡ false →
      HaveWakersOn i v
  wakers-refused plan is_y is_x marked free = by_sides
      (λ h. inl (ap (λ a. has a.holder (opposite t)) (is.word ∙ is_x) ∙ held))
      (λ q z apart at tried on m. not_both (has (word_at w i).holder (opposite t)) held
      (sym (links.holds q z i (opposite t) at on) ∙ flags.tried_free q z at tried))
    where
      held : has (word_at w i).holder (opposite t) ≡ true
      held = other-held (word_at w i) t ((plan-tells (word_at w i) t).refuses plan (sym marked_is ∙ marked)) (sym holds_is ∙ free)

  -- unlock
  pub wakers-unlock : y ≡ drop_lock r → is_possible r acts.Unlock ≡ true → HaveWakersOn i v
  unfolding is_possible
  wakers-unlock is_y possible = by_sides
      (λ h. not_both r.holds holds (flags.tried_free k r is.here (sym (ap (λ z. z.tried) is_y) ∙ h)))
      (λ q z apart at tried on m. inr (inr (inl (record {
        key = k;
        router = y;
        here = there;
        on = y_on (opposite (opposite t)) ∙ subst (λ d. has_primary (Central i) d r ≡ true) (sym (opposite_opposite t)) own_on;
        passes = subst (λ z. is_possible z acts.Lock ≡ true) (sym is_y) (able-is (drop_lock r) able);
      }))))
    where
      holds : r.holds ≡ true
      holds = held_by (is_proxy r) (is_done r) r.holds (is_on_central r) (decays r) possible
        where
          held_by : (p d h c e : Bool) → ((p && (h && (c && not e))) || (d && (h && (c && not e)))) ≡ true → h ≡ true
          held_by p d true c e q = refl
          held_by p d false c e q = grind (arith, q)

      wet : is_some r.spare ≡ true → (c : Bool) → r.dry ≡ c → r.dry ≡ false
      wet spare false e = e
      wet spare true e = not_both (is_some r.spare) spare (ap is_some (flags.dry k r is.here e))

      kind : (c : Bool) → is_proxy r ≡ c → IsReadyProxy (drop_lock r) ⊎ (is_done (drop_lock r) ≡ true)
      kind true e = let spare = (law.shape k r is.here).holds_spare holds e in inl (record { proxy = e; wet = wet spare r.dry refl; spare = spare })
      kind false e = inr (fits (is_proxy r) (is_done r) ((law.shape k r is.here).holds_fit holds) e)
        where
          fits : (p d : Bool) → (p || d) ≡ true → p ≡ false → d ≡ true
          fits true d h q = cc
          fits false d h q = h

      untried : (c : Bool) → r.tried ≡ c → r.tried ≡ false
      untried false e = e
      untried true e = not_both r.holds holds (flags.tried_free k r is.here e)

      able : IsAble (drop_lock r)
      able = record {
        central = ap is_some is.link;
        marked = (law.shape k r is.here).holds_marked holds;
        still = (law.shape k r is.here).marked_still ((law.shape k r is.here).holds_marked holds);
        untried = untried r.tried refl;
        free = refl;
        kind = kind (is_proxy r) refl;
      }

  -- wake, which sends a Flush
  pub wakers-wake : y ≡ wake_other r → x ≡ woken (word_at w i) t →
      ((e : LinkEnd) → r.outward.primary ≡ Some e → e.link ≡ Central i → e.side ≡ t → HasFlush v i (opposite t) e.other) → HaveWakersOn i v
  unfolding side_router side_node
  wakers-wake is_y is_x sends = by_sides
      (λ h. own (wakers i k r t is.here (sym (ap (λ z. z.tried) is_y) ∙ h) own_on)) other
    where
      holder : (s : Side) → has (word_at v i).holder s ≡ has (word_at w i).holder s
      holder s = ap (λ z. has z.holder s) (is.word ∙ is_x)

      own : HasWaker w i t k.node → HasWaker v i t k.node
      own (inl h) = inl (holder (opposite t) ∙ h)
      own (inr (inl f)) = inr (inl (flush t k.node f))
      own (inr (inr (inl p))) = inr (inr (inl (other_passes (λ r. is_possible r acts.Lock) p)))
      own (inr (inr (inr (waits, more)))) = inr (inr (inr (
        ap (λ a. has a.waiting t) (is.word ∙ is_x) ∙ has-without_apart (word_at w i).waiting (opposite t) t
            (λ e. not_opposite t (sym e)) ∙ waits,
        elim more [
          | inl unstable ↦ inl (ap (λ a. has a.stable (opposite t)) (is.word ∙ is_x) ∙ unstable)
          | inr p ↦ inr (other_passes (λ r. r.wake_owed) p)
        ],
      )))

      able : is_possible r acts.Lock ≡ true → is_possible y acts.Lock ≡ true
      able h = let a = able-tells r h in subst (λ z. is_possible z acts.Lock ≡ true) (sym is_y) (able-is (wake_other r) (record {
        central = a.central;
        marked = a.marked;
        still = a.still;
        untried = a.untried;
        free = a.free;
        kind = elim a.kind [
          | inl k ↦ inl (record { proxy = k.proxy; wet = k.wet; spare = k.spare })
          | inr k ↦ inr k
        ];
      }))

      node_of : (q : Key) (o : Option ℕ) (n : ℕ) → key_at n o ≡ Some q → q.node ≡ n
      node_of q None n e = cc
      node_of q (Some z) n e = ap (λ a. a.node) (sym (same_Some (record { node = n; serial = z }) q e))

      other : (q : Key) (z : Router) → (q ≡ k → ⊥) → router_at w q ≡ Some z → z.tried ≡ true → has_primary (Central i)
          (opposite t) z ≡ true →
          HasWaker w i (opposite t) q.node → HasWaker v i (opposite t) q.node
      other q z apart at tried on (inl h) = inl (holder (opposite (opposite t)) ∙ h)
      other q z apart at tried on (inr (inl f)) = inr (inl (flush (opposite t) q.node f))
      other q z apart at tried on (inr (inr (inl p))) = inr (inr (inl (record {
        key = k;
        router = y;
        here = there;
        on = y_on (opposite (opposite t)) ∙ subst (λ d. has_primary (Central i) d r ≡ true) (sym (opposite_opposite t)) own_on;
        passes = able (own_passes (opposite t) (λ r. is_possible r acts.Lock) (opposite_opposite t) p);
      })))
      other q z apart at tried on (inr (inr (inr m))) = inr (inl (subst (HasFlush v i (opposite t)) (sym at_other)
          (sends own_link.0 own_link.1 own_link.2 own_side)))
        where
          known : side_router g (Central i) (opposite t) ≡ Some q
          known = (on_tells w b g q z i (opposite t) law at on).router

          at_other : q.node ≡ own_link.0.other
          at_other =
              let rec : IsRecorded w g k r own_link.0 = ((links-in law) k r is.here).primary own_link.0 own_link.1 in
              node_of q ((g.central i).router (opposite t)) ((g.central i).node (opposite t)) known
              ∙ sym (rec.other ∙ ap (λ l. side_node g l (opposite own_link.0.side)) own_link.2
              ∙ ap (λ s. side_node g (Central i) (opposite s)) own_side)
