-- A router that is told that no word is left, or that it may claim again: the world stays lawful.
use Rattle.std.specs.Prelude.{◌≡◌, ◌⊎◌, ◌<◌, ℕ, Bool, true, false, cond, Some, None, is_none, unwrap_or, length, slice_get, refl}
use Rattle.std.proofs.Common.{arith, ap, subst, ◌∙◌, sym, inl, inr}
use Rattle.ipcz_world.proofs.Vocabulary.{Side, Central, Peripheral, Router, RouterAct, World, Key, node_at, word_at, router_at, set_router, Books}
use Rattle.ipcz_world.proofs.Vocabulary.{Inv, opposite, is_terminal, has, is_possible, can_take, has_primary, has_link, with_router, A, B, End, Edge}
use Rattle.ipcz_world.proofs.Vocabulary.{Word, Queue, Item, same_key, opposite_end, edge_has, no_edge, is_retired, is_rest, may_take, Routes, may_act}
use Rattle.ipcz_world.proofs.Vocabulary.{AreFlagged, FlagsAgree, IsRanked, Lawful}
use Rattle.std.proofs.lemmas.Option.{same_Some}
use Rattle.ipcz_router.specs.ActEffects.{run_dry, rewet}
use Rattle.ipcz_router.specs.ActTable.{is_ready}
use Rattle.ipcz_router.specs.declared.act.RouterAct.TheVariants as acts
use Rattle.ipcz_world.specs.Owed.{PrimaryPasses, WaitsForOther, HasWaker, HaveWakers, GoneUnread}
use Rattle.ipcz_world.specs.Settling.{IsBounded}
use Rattle.ipcz_world.specs.HeldEnds.{DryKeepsLawful, WetKeepsLawful}
use Rattle.ipcz_world.proofs.frames.Frames.{one_or_before, OneOrBefore, same_key_tells, word-set_node}
use Rattle.ipcz_world.proofs.frames.OneRouter.{SameButRouter, set-router, words-set_router}
use Rattle.ipcz_world.proofs.frames.GivingUp.{HasSameFlags}
use Rattle.ipcz_world.proofs.acts.Flags.{IsFlagged, inv-flagged}
use Rattle.ipcz_world.proofs.facts.Tests.{and_second, none_is, false-true}
use Rattle.ipcz_world.proofs.runs.BoundedSteps.{bounded-set_node}
use Rattle.ipcz_world.proofs.runs.Running.{lawful_by}

-- another router with the same links, queues and marks, that has tried as much, and is flagged if it can act
pub record IsTold (r y : Router) : Type 0 where
  pub same : IsFlagged r y
  pub marks : HasSameFlags r y
  pub tried : y.tried ≡ r.tried
  pub wake : y.wake_owed ≡ r.wake_owed
  pub dry : y.dry ≡ true → y.spare ≡ None
  pub awake : (act : RouterAct) → is_possible y act ≡ true → y.flagged ≡ true
  pub able : is_possible r acts.Lock ≡ true → is_possible y acts.Lock ≡ true

module _ (w : World) (b : Books) (g : Routes) (law : Lawful w b g) (k : Key) (r y : Router) (here : router_at w k ≡ Some r) (told : IsTold r y)
  where
    abbrev v : World
    v = set_router w k y

    one : SameButRouter w v k (Some y)
    one = set-router w k y

    routers : (q : Key) (z : Router) → router_at v q ≡ Some z → OneOrBefore w k y q z
    routers = one_or_before w v k y one.routers

    word : (i : ℕ) → word_at v i ≡ word_at w i
    word i = word-set_node w _ _ i

    inv : Inv v b law.records
    inv = inv-flagged w v b law.records k r y law.inv here one (words-set_router w k y) told.same told.marks

    flagged : AreFlagged v
    flagged q z act at can = go (routers q z at)
      where
        go : OneOrBefore w k y q z → z.flagged ≡ true
        go (inl t) = subst (λ (x : Router). x.flagged ≡ true) t.1 (told.awake act (subst (λ x. is_possible x act ≡ true) (sym t.1) can))
        go (inr t) = law.flagged q z act t.1 can

    agreed : FlagsAgree v
    agreed = record {
      dry = λ q z at h. dry q z h (routers q z at);
      wake = λ q z at h. wake q z h (routers q z at);
      tried_marked = λ q z at h. tried_marked q z h (routers q z at);
      tried_free = λ q z at h. tried_free q z h (routers q z at);
    }
      where
        dry : (q : Key) (z : Router) → z.dry ≡ true → OneOrBefore w k y q z → z.spare ≡ None
        dry q z h (inl t) = subst (λ (x : Router). x.spare ≡ None) t.1 (told.dry (subst (λ (x : Router). x.dry ≡ true) (sym t.1) h))
        dry q z h (inr t) = law.agreed.dry q z t.1 h

        wake : (q : Key) (z : Router) → z.wake_owed ≡ true → OneOrBefore w k y q z → z.marked ≡ true
        wake q z h (inl t) = subst (λ (x : Router). x.marked ≡ true) t.1
            (told.marks.marked ∙ law.agreed.wake k r here (sym told.wake ∙ subst (λ (x : Router). x.wake_owed ≡ true) (sym t.1) h))
        wake q z h (inr t) = law.agreed.wake q z t.1 h

        tried_marked : (q : Key) (z : Router) → z.tried ≡ true → OneOrBefore w k y q z → z.marked ≡ true
        tried_marked q z h (inl t) = subst (λ (x : Router). x.marked ≡ true) t.1
            (told.marks.marked ∙ law.agreed.tried_marked k r here (sym told.tried ∙ subst (λ (x : Router). x.tried ≡ true) (sym t.1) h))
        tried_marked q z h (inr t) = law.agreed.tried_marked q z t.1 h

        tried_free : (q : Key) (z : Router) → z.tried ≡ true → OneOrBefore w k y q z → z.holds ≡ false
        tried_free q z h (inl t) = subst (λ (x : Router). x.holds ≡ false) t.1
            (told.marks.holds ∙ law.agreed.tried_free k r here (sym told.tried ∙ subst (λ (x : Router). x.tried ≡ true) (sym t.1) h))
        tried_free q z h (inr t) = law.agreed.tried_free q z t.1 h

    -- who stood there still does
    stands : (q : Key) (z : Router) → router_at w q ≡ Some z → (router_at v q ≡ Some z) ⊎ ((q ≡ k) × (z ≡ r) × (router_at v q ≡ Some y))
    stands q z at = go (same_key_tells q k)
      where
        go : ((same_key q k ≡ true) × (q ≡ k)) ⊎ ((same_key q k ≡ false) × (q ≡ k → ⊥)) →
            (router_at v q ≡ Some z) ⊎ ((q ≡ k) × (z ≡ r) × (router_at v q ≡ Some y))
        go (inl m) = inr (m.1, same_Some z r (sym at ∙ ap (router_at w) m.1 ∙ here), one.routers q ∙ ap (λ c. cond c (Some y) (router_at w q)) m.0)
        go (inr m) = inl (one.routers q ∙ ap (λ c. cond c (Some y) (router_at w q)) m.0 ∙ at)

    passed : (i : ℕ) (s : Side) (test : Router → Bool) → (test r ≡ true → test y ≡ true) → PrimaryPasses w i s test → PrimaryPasses v i s test
    passed i s test kept p = go (stands p.key p.router p.here)
      where
        go : (router_at v p.key ≡ Some p.router) ⊎ ((p.key ≡ k) × (p.router ≡ r) × (router_at v p.key ≡ Some y)) → PrimaryPasses v i s test
        go (inl h) = record { key = p.key; router = p.router; here = h; on = p.on; passes = p.passes }
        go (inr t) = record {
          key = p.key;
          router = y;
          here = t.2;
          on = ap (λ (e : Edge). has_link e.primary (Central i) s) told.same.outward ∙ subst (λ x. has_primary (Central i) s x ≡ true) t.1 p.on;
          passes = kept (subst (λ x. test x ≡ true) t.1 p.passes);
        }

    waits : (i : ℕ) (s : Side) → WaitsForOther w i s → WaitsForOther v i s
    waits i s h = (ap (λ (x : Word). has x.waiting s) (word i) ∙ h.0, go h.1)
      where
        go : (has (word_at w i).stable (opposite s) ≡ false) ⊎ PrimaryPasses w i (opposite s) (λ r. r.wake_owed) →
            (has (word_at v i).stable (opposite s) ≡ false) ⊎ PrimaryPasses v i (opposite s) (λ r. r.wake_owed)
        go (inl a) = inl (ap (λ (x : Word). has x.stable (opposite s)) (word i) ∙ a)
        go (inr p) = inr (passed i (opposite s) (λ r. r.wake_owed) (λ e. told.wake ∙ e) p)

    waker : (i : ℕ) (s : Side) (node : ℕ) → HasWaker w i s node → HasWaker v i s node
    waker i s node (inl h) = inl (ap (λ (x : Word). has x.holder (opposite s)) (word i) ∙ h)
    waker i s node (inr (inl f)) = inr (inl (record {
      from = f.from;
      place = f.place;
      under_way = record {
        sender = subst (λ c. f.from < c) (sym one.count) f.under_way.sender;
        receiver = subst (λ c. node < c) (sym one.count) f.under_way.receiver;
        place = ap (λ ms. slice_get ms f.place) (one.flows f.from node) ∙ f.under_way.place;
      };
    }))
    waker i s node (inr (inr (inl p))) = inr (inr (inl (passed i (opposite s) (λ r. is_possible r acts.Lock) told.able p)))
    waker i s node (inr (inr (inr h))) = inr (inr (inr (waits i s h)))

    wakers : HaveWakers v
    wakers i q z s at tried on = go (routers q z at)
      where
        go : OneOrBefore w k y q z → HasWaker v i s q.node
        go (inl t) = waker i s q.node (subst (λ (x : Key). HasWaker w i s x.node) (sym t.0)
            (law.wakers i k r s here (sym told.tried ∙ subst (λ (x : Router). x.tried ≡ true) (sym t.1) tried)
            (ap (λ (e : Edge). has_link e.primary (Central i) s) (sym told.same.outward) ∙ subst (λ x. has_primary (Central i) s x ≡ true) (sym t.1) on)))
        go (inr t) = waker i s q.node (law.wakers i q z s t.1 tried on)

    -- each router has the links of the one that stood there
    stood : (q : Key) (z : Router) → router_at v q ≡ Some z → (x : Router) × (router_at w q ≡ Some x) × (z.outward ≡ x.outward) × (z.inward ≡ x.inward)
    stood q z at = go (routers q z at)
      where
        go : OneOrBefore w k y q z → (x : Router) × (router_at w q ≡ Some x) × (z.outward ≡ x.outward) × (z.inward ≡ x.inward)
        go (inl t) = (r, ap (router_at w) t.0 ∙ here, ap (λ (x : Router). x.outward) (sym t.1) ∙ told.same.outward, ap (λ (x : Router). x.inward) (sym t.1) ∙ told.same.inward)
        go (inr t) = (z, t.1, refl, refl)

    ranked : IsRanked v
    ranked = record {
      rank = law.ranked.rank;
      limit = law.ranked.limit;
      below = λ q z at. let t = stood q z at in law.ranked.below q t.0 t.1;
      rises = λ p q x z n c at_p at_q on_p on_q. let s = stood p x at_p in let t = stood q z at_q in
          law.ranked.rises p q s.0 t.0 n c s.1 t.1
          (ap (λ e. edge_has (unwrap_or e no_edge) (Peripheral n c) A) (sym s.3) ∙ on_p)
          (ap (λ e. edge_has e (Peripheral n c) B) (sym t.2) ∙ on_q);
    }

    unread : GoneUnread v b
    unread q z at terminal retired = go (routers q z at)
      where
        go : OneOrBefore w k y q z → z.in_queue.current < length (b.put (opposite_end z.end))
        go (inl t) = subst (λ (x : Router). x.in_queue.current < length (b.put (opposite_end x.end))) t.1
            (subst (λ (e : End). y.in_queue.current < length (b.put (opposite_end e))) (sym told.same.end)
            (subst (λ (q : Queue Item). q.current < length (b.put (opposite_end r.end))) (sym told.same.in_queue)
            (law.unread k r here
            (ap is_none (sym told.same.inward) ∙ subst (λ x. is_terminal x ≡ true) (sym t.1) terminal)
            (ap (λ e. is_retired b (opposite_end e)) (sym told.same.end) ∙ subst (λ (x : Router). is_retired b (opposite_end x.end) ≡ true) (sym t.1) retired))))
        go (inr t) = law.unread q z t.1 terminal retired

    bounded : IsBounded v
    bounded = bounded-set_node w k.node (with_router (node_at w k.node) k.serial y) (law.inv.counts.on_node k r here) law.bounded
        (λ to l. law.bounded.box k.node to (law.inv.counts.on_node k r here) l)

    pub lawful_told : Lawful v b g
    lawful_told = lawful_by v b law.records g inv law.routes flagged agreed (record { wakers = wakers; ranked = ranked }) unread bounded

-- the router can still do what it could, but claim and lock as a proxy
dry_possible : (r : Router) (act : RouterAct) → is_possible (run_dry r) act ≡ true → is_possible r act ≡ true
unfolding is_possible
dry_possible r acts.Claim h = absurd (grind (arith, h))
dry_possible r acts.Lock h = grind (arith, h)
dry_possible r other h = h

wet_able : (r : Router) → is_possible r acts.Lock ≡ true → is_possible (rewet r) acts.Lock ≡ true
unfolding is_possible
wet_able r h = grind (arith, h)

dry_able : (r : Router) → is_none r.spare ≡ true → is_possible r acts.Lock ≡ true → is_possible (run_dry r) acts.Lock ≡ true
unfolding is_possible
dry_able r e h = grind (arith, e, h)

claim_possible : (r : Router) → may_take r acts.Claim ≡ true → is_possible r acts.Claim ≡ true
unfolding is_rest
claim_possible r h = grind (arith, h)

claim_spare : (r : Router) → is_possible r acts.Claim ≡ true → is_none r.spare ≡ true
unfolding is_possible
claim_spare r h = and_second (is_ready r) (is_none r.spare) h

pub dry_keeps_lawful : DryKeepsLawful
unfolding can_take may_act
dry_keeps_lawful w b g n serial r law ln here can =
    let possible : is_possible r acts.Claim ≡ true = claim_possible r (subst (λ o. may_act o acts.Claim ≡ true) here can) in
    let none : is_none r.spare ≡ true = claim_spare r possible in
    lawful_told w b g law (record { node = n; serial = serial }) r (run_dry r) here (record {
      same = record { end = refl; outward = refl; inward = refl; out_queue = refl; in_queue = refl; closed = refl; mark_seen = refl; mark_dropped = refl; gone_sent = refl };
      marks = record { spare = refl; marked = refl; holds = refl };
      tried = refl;
      wake = refl;
      dry = λ h. none_is r.spare none;
      awake = λ act h. law.flagged (record { node = n; serial = serial }) r act here (dry_possible r act h);
      able = dry_able r none;
    })

pub wet_keeps_lawful : WetKeepsLawful
wet_keeps_lawful w b g k r law here = lawful_told w b g law k r (rewet r) here (record {
  same = record { end = refl; outward = refl; inward = refl; out_queue = refl; in_queue = refl; closed = refl; mark_seen = refl; mark_dropped = refl; gone_sent = refl };
  marks = record { spare = refl; marked = refl; holds = refl };
  tried = refl;
  wake = refl;
  dry = false-true;
  awake = λ act h. refl;
  able = wet_able r;
})
