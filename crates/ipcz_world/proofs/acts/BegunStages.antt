-- A proxy begins: who stands where, the words, and the bypass at its first stage.
use Rattle.ipcz_world.proofs.frames.RolesTell.{links-in}
use Rattle.ipcz_base.specs.Ends as ends
use Rattle.ipcz_base.specs.Ends.{opposite_end}
use Rattle.ipcz_world.proofs.frames.RecordRules.{bypass_of-inner}
use Rattle.ipcz_world.proofs.Vocabulary.{Peripheral, bypass_of, is_terminal, Side, A, B, LinkId, Central, LinkEnd, Message, opposite, same_side, has}
use Rattle.ipcz_world.proofs.Vocabulary.{Word, Router, inward_edge, World, Key, same_key, router_at, Books, Records, Owner, Spare, Fresh, Linked}
use Rattle.ipcz_world.proofs.Vocabulary.{Opening, is_linked, is_begun, is_recorded, inner_link, side_router, side_node, side_end, proxy_side}
use Rattle.ipcz_world.proofs.Vocabulary.{across_side, key_passes, has_primary, has_decaying, has_inward_decaying, Stands, Words, Spares}
use Rattle.ipcz_world.proofs.Vocabulary.{BypassRecords, Stages, inner_of, Inv, IsBypassRecorded, HasWord, is_retired, RetiredEnds, Gones, is_left}
use Rattle.ipcz_world.proofs.Vocabulary.{LiveLinks, has_inward_primary, spare_of, is_begun_router, fresh_of}
use Rattle.ipcz_world.specs.Books.{is_closed}
use Rattle.ipcz_world.proofs.frames.LeftSides.{not_left}
use Rattle.ipcz_world.proofs.acts.BegunRecords.{left-begun}
use Rattle.ipcz_world.proofs.acts.BegunAround.{none_left, central_unleft, inner_unleft, unretired, unsent, by-central}
use Rattle.ipcz_world.proofs.frames.LiveLinks.{same_word}
use Rattle.std.proofs.Common.{true≢false}
use Rattle.ipcz_world.proofs.frames.Sourcing.{sourced-by, had-itself}
use Rattle.std.specs.Prelude.{◌≡◌, ◌≢◌, ◌⊎◌, ◌≤◌, ℕ, Bool, true, false, cond, not, nat_eq, Option, Some, None, is_some, refl}
use Rattle.std.proofs.Common.{arith, sym, ◌∙◌, ap, subst, inl, inr}
use Rattle.std.proofs.lemmas.Bool.Decides.{nat_tests}
use Rattle.std.proofs.lemmas.Option.{same_Some, none-some}
use Rattle.ipcz_world.proofs.facts.Lengths.{HasEnd, has_link-tells}
use Rattle.ipcz_world.proofs.frames.Frames.{same_key_tells, same_key-itself}
use Rattle.ipcz_world.proofs.facts.RecordsAfter.{begin_records}
use Rattle.ipcz_world.proofs.frames.StandingRules.{standing_rules}
use Rattle.ipcz_world.proofs.facts.LinkTests.{has_link-is}
use Rattle.ipcz_world.proofs.acts.Beginning.{Begins}
use Rattle.ipcz_world.proofs.acts.BegunRecords.{router-begun, node-begun, end-begun, linked-begun, begun-here, begun-else, by_word}
use Rattle.ipcz_world.proofs.acts.BegunRecords.{side-begun, by-inner, end_at}
use Rattle.ipcz_world.proofs.acts.BegunWorld.{Sends}
use Rattle.ipcz_world.proofs.acts.BegunAround.{IsBegunFrom, rec-begun, not-begun, not-inner, word_same, key_same, side-here}
use Rattle.ipcz_world.proofs.frames.BypassesKept.{KeepsBypass, IsSameBypass, same_bypass, bypass-kept}
use Rattle.ipcz_world.proofs.frames.WordsKept.{KeepsWord, word-kept}

inner-side_end : (g : Records) (q : Key) (s : Side) → side_end g (inner_link q) s ≡ (g.peripheral q).end
unfolding side_end
inner-side_end g q s = refl

module _ {w v : World} {b : Books} {g : Records} {k : Key} {r y : Router} {p : Key} {into out : LinkEnd} {o fresh to : ℕ} {m : Message}
    (law : Inv w b g) (is : Begins w g k r p into out o fresh) (c : Sends w v k y to m) (new : IsBegunFrom r y into out) where
  -- the records after the begin
  abbrev pub after : Records
  after = begin_records g k o fresh p

  -- a router stood there before, or is the one that has begun
  before : (q : Key) (z : Router) → router_at v q ≡ Some z → ((router_at w q ≡ Some z) × (q ≢ k)) ⊎ ((q ≡ k) × (z ≡ y))
  before q z at = go (same_key_tells q k)
    where
      go : ((same_key q k ≡ true) × (q ≡ k)) ⊎ ((same_key q k ≡ false) × (q ≢ k)) →
          ((router_at w q ≡ Some z) × (q ≢ k)) ⊎ ((q ≡ k) × (z ≡ y))
      go (inl e) = inr (e.1, grind (arith, e, c.routers q, at))
      go (inr e) = inl (grind (arith, e, c.routers q, at), e.1)

  -- what a known router passed it still passes
  pub passes-begun : (test : Router → Bool) (q : Option Key) → key_passes w q test ≡ true → (q ≡ Some k → test r ≡ true → test y ≡ true) →
      key_passes v q test ≡ true
  passes-begun test None h still = absurd (grind (arith, standing_rules, h))
  passes-begun test (Some q) h still = go (same_key_tells q k)
    where
      go : ((same_key q k ≡ true) × (q ≡ k)) ⊎ ((same_key q k ≡ false) × (q ≢ k)) → key_passes v (Some q) test ≡ true
      go (inl e) = let t : test r ≡ true = grind (arith, standing_rules, e, h, is.here) in
          grind (arith, standing_rules, e, c.routers q, still (ap Some e.1) t)
      go (inr e) = grind (arith, standing_rules, e, h, c.routers q)

  pub passes-else : (test : Router → Bool) (q : Option Key) → (q ≡ Some k → ⊥) → key_passes v q test ≡ key_passes w q test
  passes-else test None apart = grind (arith, standing_rules)
  passes-else test (Some q) apart = go (same_key_tells q k)
    where
      go : ((same_key q k ≡ true) × (q ≡ k)) ⊎ ((same_key q k ≡ false) × (q ≢ k)) → key_passes v (Some q) test ≡ key_passes w (Some q) test
      go (inl e) = absurd (apart (ap Some e.1))
      go (inr e) = grind (arith, standing_rules, e, c.routers q)

  -- its primary links are the old and the inner one
  had-primary : (l : LinkId) (s : Side) → has_primary l s r ≡ true → l ≡ Central o
  had-primary l s h = let t : HasEnd r.outward.primary l s = has_link-tells r.outward.primary l s h in
      sym t.on_link ∙ ap (λ e. e.link) (same_Some t.end out (sym t.there ∙ is.outer)) ∙ is.outer_at

  had-inward : (l : LinkId) (s : Side) → has_inward_primary l s r ≡ true → l ≡ inner_link p
  had-inward l s h = let t : HasEnd (inward_edge r).primary l s = has_link-tells (inward_edge r).primary l s h in
      sym t.on_link ∙ ap (λ e. e.link) (same_Some t.end into (sym t.there ∙ is.inner)) ∙ is.inner_at

  word-not : (i : ℕ) → is_begun (after.bypass i) ≡ false → nat_eq i o ≡ false
  word-not i a = go (nat_eq i o) refl
    where
      go : (t : Bool) → nat_eq i o ≡ t → nat_eq i o ≡ false
      go true e = absurd (let f : i ≡ o = grind (arith, e, nat_tests) in grind (arith, a, f, begun-here g k o fresh p))
      go false e = e

  -- this router's side of a live link is the old one's, which is live no more
  not-here : (i : ℕ) (s : Side) → is_linked (g.owner i) ≡ true → is_begun (g.bypass i) ≡ false → nat_eq i o ≡ false →
      side_router g (Central i) s ≡ Some k → ⊥
  not-here i s l a n e = let f : Central i ≡ Central o = had-primary (Central i) s
      (grind (arith, standing_rules, law.stands.central i s k l a (not_left w g (Central i) s k r law.stands e is.here) e, is.here)) in grind (arith, word_same law is c new i o f, n, nat_tests)

  pub stands-begun : Stands v after
  stands-begun = record {
    central = λ i s q a f nl e. let n : nat_eq i o ≡ false = word-not i f in let l : is_linked (g.owner i) ≡ true =
        sym (linked-begun g k o fresh p i is.owner) ∙ a in let t : is_begun (g.bypass i) ≡ false =
        ap is_begun (sym (begun-else g k o fresh p i n)) ∙ f in
        let x : side_router g (Central i) s ≡ Some q = sym (router-begun g k o fresh p (Central i) s) ∙ e in
        passes-begun _ (Some q) (law.stands.central i s q l t (sym (left-begun g k o fresh p (Central i) s) ∙ nl) x) (λ u h. absurd (not-here i s l t n (x ∙ u)));
    awaited = λ i s a e. law.stands.awaited i s (sym (linked-begun g k o fresh p i is.owner) ∙ a) e;
    awaited_stage = λ i s j a e d. let t : (g.bypass j).stage ≡ 2 =
        law.stands.awaited_stage i s j (sym (linked-begun g k o fresh p i is.owner) ∙ a) e d in
        ap (λ z. z.stage) (begun-else g k o fresh p j (not-begun law is c new j (grind (arith, t, nat_tests)))) ∙ t;
    awaited_side = λ i s j a e d. let l : is_linked (g.owner i) ≡ true = sym (linked-begun g k o fresh p i is.owner) ∙ a in
        let t : (g.bypass j).stage ≡ 2 = law.stands.awaited_stage i s j l e d in
        law.stands.awaited_side i s j l e d ∙
        ap opposite (sym (side-begun g k o fresh p j (not-begun law is c new j (grind (arith, t, nat_tests)))));
    proxy = λ i a f nl. proxy i a f (sym (left-begun g k o fresh p (inner_link i) A) ∙ nl) (same_key_tells i p);
    inner = λ i q a f nl e. let x : side_router g (inner_link i) B ≡ Some q = sym (router-begun g k o fresh p (inner_link i) B) ∙ e in
        passes-begun _ (Some q) (law.stands.inner i q (sym (rec-begun law is c new (inner_link i)) ∙ a) (old-free i f)
        (sym (left-begun g k o fresh p (inner_link i) B) ∙ nl) x)
        (λ u h. absurd (other-kind i (had-primary (inner_link i) B h)));
    by_begun = λ i j e. by i j e (same_key_tells i p);
    by_inner = λ i j e. inner i j e (same_key_tells i p);
    left_recorded = λ l s h. rec-begun law is c new l ∙ law.stands.left_recorded l s (was_left l s h);
    left_known = λ l s h. ap is_some (router-begun g k o fresh p l s) ∙ law.stands.left_known l s (was_left l s h);
    left_gone = λ l s h. ap (λ q. key_passes v q (λ z. true)) (router-begun g k o fresh p l s) ∙
        passes-else (λ z. true) (side_router g l s) (stood l s (was_left l s h)) ∙ law.stands.left_gone l s (was_left l s h);
    left_live = λ l s h. unbegun l s (was_left l s h);
  }
    where
      other-kind : (i : Key) → inner_link i ≡ Central o → ⊥
      other-kind i e = cc

      old-free : (i : Key) → (after.peripheral i).by ≡ None → (g.peripheral i).by ≡ None
      old-free i f = go (same_key_tells i p)
        where
          go : ((same_key i p ≡ true) × (i ≡ p)) ⊎ ((same_key i p ≡ false) × (i ≢ p)) → (g.peripheral i).by ≡ None
          go (inl a) = absurd (grind (arith, f, by-inner g k o fresh p i, a))
          go (inr a) = grind (arith, f, by-inner g k o fresh p i, a)

      was_left : (l : LinkId) (s : Side) → is_left after l s ≡ true → is_left g l s ≡ true
      was_left l s h = sym (left-begun g k o fresh p l s) ∙ h

      stood : (l : LinkId) (s : Side) → is_left g l s ≡ true → side_router g l s ≡ Some k → ⊥
      stood l s h e = true≢false (sym h ∙ not_left w g l s k r law.stands e is.here)

      apart : (l : LinkId) (s : Side) → is_left g l s ≡ true → (side_end g l s).pair ≡ r.end.pair → ⊥
      apart l s h e = true≢false (sym h ∙ none_left law is c new l s e)

      unbegun : (l : LinkId) (s : Side) → is_left g l s ≡ true → bypass_of after l ≡ None
      unbegun (Central i) s h = by-central law is c new i (old_apart (nat_eq i o) refl) ∙ law.stands.left_live (Central i) s h
        where
          old_apart : (t : Bool) → nat_eq i o ≡ t → nat_eq i o ≡ false
          old_apart true e = let f : i ≡ o = grind (arith, e, nat_tests) in
              absurd (true≢false (sym h ∙ central_unleft law is c new i s (ap (λ n. (g.central n).pair) f ∙ is.pair)))
          old_apart false e = e
      unbegun (Peripheral n x) s h = bypass_of-inner after q ∙ by-inner g k o fresh p q ∙ ap (λ t. cond t (Some o) (g.peripheral q).by)
          (new_apart (same_key_tells q p)) ∙ sym (bypass_of-inner g q) ∙ law.stands.left_live (Peripheral n x) s h
        where
          q : Key
          q = record { node = n; serial = x }

          new_apart : ((same_key q p ≡ true) × (q ≡ p)) ⊎ ((same_key q p ≡ false) × (q ≢ p)) → same_key q p ≡ false
          new_apart (inl e) = absurd (apart (Peripheral n x) s h (ap (λ t. t.pair) (inner-side_end g q s ∙ ap (λ z. (g.peripheral z).end) e.1 ∙ is.inner_end)))
          new_apart (inr e) = e.0

      proxy : (i : Key) → is_recorded v after (inner_link i) ≡ true → (after.peripheral i).by ≡ None → is_left g (inner_link i) A ≡ false →
          ((same_key i p ≡ true) × (i ≡ p)) ⊎ ((same_key i p ≡ false) × (i ≢ p)) →
          key_passes v (side_router after (inner_link i) A) (has_inward_primary (inner_link i) A) ≡ true
      proxy i a f nl (inl e) = absurd (grind (arith, f, by-inner g k o fresh p i, e))
      proxy i a f nl (inr e) = ap (λ t. key_passes v t (has_inward_primary (inner_link i) A)) (router-begun g k o fresh p (inner_link i) A)
          ∙ passes-begun _ (side_router g (inner_link i) A) (law.stands.proxy i (sym (rec-begun law is c new (inner_link i)) ∙ a)
          (old-free i f) nl)
          (λ u h. absurd (e.1 (key_same law is c new i p (had-inward (inner_link i) A h))))

      by : (i : Key) (j : ℕ) → (after.peripheral i).by ≡ Some j → ((same_key i p ≡ true) × (i ≡ p)) ⊎ ((same_key i p ≡ false) × (i ≢ p)) →
          is_begun (after.bypass j) ≡ true
      by i j e (inl a) = let n : j ≡ o = grind (arith, e, by-inner g k o fresh p i, a) in grind (arith, n, begun-here g k o fresh p)
      by i j e (inr a) = let n : is_begun (g.bypass j) ≡ true = law.stands.by_begun i j (grind (arith, e, by-inner g k o fresh p i, a)) in
          ap is_begun (begun-else g k o fresh p j (not-begun law is c new j n)) ∙ n

      inner : (i : Key) (j : ℕ) → (after.peripheral i).by ≡ Some j →
          ((same_key i p ≡ true) × (i ≡ p)) ⊎ ((same_key i p ≡ false) × (i ≢ p)) → (after.bypass j).inner ≡ i
      inner i j e (inl a) = let n : j ≡ o = grind (arith, e, by-inner g k o fresh p i, a) in
          ap (λ t. (after.bypass t).inner) n ∙ ap (λ t. t.inner) (begun-here g k o fresh p) ∙ sym a.1
      inner i j e (inr a) = let f : (g.peripheral i).by ≡ Some j = grind (arith, e, by-inner g k o fresh p i, a) in
          ap (λ t. t.inner) (begun-else g k o fresh p j (not-begun law is c new j (law.stands.by_begun i j f))) ∙ law.stands.by_inner i j f

  late-else : (j : ℕ) → 2 ≤ (after.bypass j).stage → nat_eq j o ≡ false
  late-else j a = go (nat_eq j o) refl
    where
      go : (t : Bool) → nat_eq j o ≡ t → nat_eq j o ≡ false
      go true e = absurd (let f : j ≡ o = grind (arith, e, nat_tests) in grind (arith, a, f, begun-here g k o fresh p))
      go false e = e

  -- no end of its pair has retired
  pub retired-begun : RetiredEnds b after
  retired-begun = record {
    retired = law.retired_ends.retired;
    peer_closed = law.retired_ends.peer_closed;
    peer_stays = law.retired_ends.peer_stays;
    all_read = law.retired_ends.all_read;
    gone_read = law.retired_ends.gone_read;
    no_bypass = by_word o {P = λ j. (s : Side) → 1 ≤ (after.bypass j).stage → (after.bypass j).stage ≤ 4 →
        is_retired b (ends.end_at (g.central j).pair s) ≡ false}
        (λ s l m. ap (λ n. is_retired b (ends.end_at n s)) is.pair ∙ unretired law is c new s)
        (λ j n s l m. let e = ap (λ t. t.stage) (begun-else g k o fresh p j n) in
        law.retired_ends.no_bypass j s (subst (λ t. 1 ≤ t) e l) (subst (λ t. t ≤ 4) e m));
    left = λ e i a l n q. left-begun g k o fresh p (Central i) e.side ∙
        law.retired_ends.left e i a (sym (linked-begun g k o fresh p i is.owner) ∙ l)
        (ap is_begun (sym (begun-else g k o fresh p i (word-not i n))) ∙ n) q;
    left_of = λ l s h. rw (end-begun g k o fresh p l s) (law.retired_ends.left_of l s (sym (left-begun g k o fresh p l s) ∙ h));
    accepted = λ j l. let n = begun-else g k o fresh p j (late-else j (omega (arith, l))) in
        rw (n, side-begun g k o fresh p j (late-else j (omega (arith, l)))) (law.retired_ends.accepted j (subst (λ t. 3 ≤ t.stage) n l));
  }

  pub gones-begun : Gones v b after
  gones-begun = record {
    sent = λ q z at h. elim (before q z at) [
      | inl a ↦ law.gones.sent q z a.0 h
      | inr a ↦ unsent law is c new (sym new.gone_sent ∙ ap (λ t. t.gone_sent) (sym a.1) ∙ h)
    ];
    sent_back = λ q z at n i h e. elim (before q z at) [
      | inl a ↦ law.gones.sent_back q z a.0 n i h e
      | inr a ↦ absurd (true≢false (sym i ∙ ap is_some (ap (λ t. (inward_edge t).primary) a.1 ∙ new.inward_primary)))
    ];
    left_primary = λ q z e at m l. elim (before q z at) [
      | inl a ↦ law.gones.left_primary q z e a.0 m (sym (left-begun g k o fresh p e.link (opposite e.side)) ∙ l)
      | inr a ↦ absurd (none-some e (sym (ap (λ t. t.outward.primary) a.1 ∙ new.primary) ∙ m))
    ];
    left_inner = λ q z e at m l. elim (before q z at) [
      | inl a ↦ law.gones.left_inner q z e a.0 m (sym (left-begun g k o fresh p e.link (opposite e.side)) ∙ l)
      | inr a ↦ absurd (none-some e (sym (ap (λ t. (inward_edge t).primary) a.1 ∙ new.inward_primary) ∙ m))
    ];
    out_put = λ q z at. elim (before q z at) [
      | inl a ↦ law.gones.out_put q z a.0
      | inr a ↦ rw (a.1, new.end, new.out_queue) (law.gones.out_put k r is.here)
    ];
    in_put = λ q z at. elim (before q z at) [
      | inl a ↦ law.gones.in_put q z a.0
      | inr a ↦ rw (a.1, new.end, new.in_queue) (law.gones.in_put k r is.here)
    ];
    still = λ q z s at n i. elim (before q z at) [
      | inl a ↦ law.gones.still q z s a.0 n i
      | inr a ↦ absurd (true≢false (sym i ∙ ap (λ t. is_retired b (ends.end_at t.end.pair s)) a.1 ∙
          ap (λ t. is_retired b (ends.end_at t.pair s)) new.end ∙ unretired law is c new s))
    ];
    dropped = λ q z n at t i m. elim (before q z at) [
      | inl a ↦ law.gones.dropped q z n a.0 t i m
      | inr a ↦ absurd (true≢false (sym t ∙ ap is_terminal a.1 ∙ new.terminal))
    ];
    dropped_closed = λ q z at m. elim (before q z at) [
      | inl a ↦ law.gones.dropped_closed q z a.0 m
      | inr a ↦ ap (λ t. is_closed b (opposite_end t.end)) a.1 ∙ ap (λ t. is_closed b (opposite_end t)) new.end ∙
          law.gones.dropped_closed k r is.here (sym (ap (λ t. t.mark_dropped) a.1 ∙ new.mark_dropped) ∙ m)
    ];
    dropped_back = λ q z n at t i l d. elim (before q z at) [
      | inl a ↦ law.gones.dropped_back q z n a.0 t i l d
      | inr a ↦ absurd (true≢false (sym t ∙ ap is_terminal a.1 ∙ new.terminal))
    ];
  }

  -- the link that was live is so no more
  pub live-begun : LiveLinks after
  live-begun = record {
    one_live = λ i j a d e n m. law.live.one_live i j (was_linked i a) (was_linked j d) e (was_live i n (same_word i o))
        (was_live j m (same_word j o));
    none_live = λ q i s a e. none q i s a e (same_word q o);
    one_begun = λ q j s t e. one q j s t e (same_word q o) (same_word j o);
  }
    where
      was_linked : (i : ℕ) → is_linked (after.owner i) ≡ true → is_linked (g.owner i) ≡ true
      was_linked i a = sym (linked-begun g k o fresh p i is.owner) ∙ a

      here : is_begun (after.bypass o) ≡ true
      here = ap is_begun (begun-here g k o fresh p)

      else : (i : ℕ) → nat_eq i o ≡ false → is_begun (after.bypass i) ≡ is_begun (g.bypass i)
      else i n = ap is_begun (begun-else g k o fresh p i n)

      was_live : (i : ℕ) → is_begun (after.bypass i) ≡ false → (i ≡ o) ⊎ (nat_eq i o ≡ false) → is_begun (g.bypass i) ≡ false
      was_live i n (inl q) = absurd (true≢false (sym (ap (λ j. is_begun (after.bypass j)) q ∙ here) ∙ n))
      was_live i n (inr q) = sym (else i q) ∙ n

      stage : (i : ℕ) → nat_eq i o ≡ false → (after.bypass i).stage ≡ 1 → (g.bypass i).stage ≡ 1
      stage i n s = ap (λ t. t.stage) (sym (begun-else g k o fresh p i n)) ∙ s

      -- each other link of the pair was bypassed already
      rest : (i : ℕ) → is_linked (g.owner i) ≡ true → (g.central i).pair ≡ (g.central o).pair → nat_eq i o ≡ false → (t : Bool) →
          is_begun (g.bypass i) ≡ t → is_begun (g.bypass i) ≡ true
      rest i a e n true m = m
      rest i a e n false m = let s : i ≡ o = law.live.one_live i o a is.linked e m is.live in absurd (grind (arith, s, n, nat_tests))

      all : (i : ℕ) → is_linked (g.owner i) ≡ true → (g.central i).pair ≡ (g.central o).pair → (i ≡ o) ⊎ (nat_eq i o ≡ false) →
          is_begun (after.bypass i) ≡ true
      all i a e (inl q) = ap (λ j. is_begun (after.bypass j)) q ∙ here
      all i a e (inr q) = else i q ∙ rest i a e q (is_begun (g.bypass i)) refl

      more : (i : ℕ) → is_begun (g.bypass i) ≡ true → (i ≡ o) ⊎ (nat_eq i o ≡ false) → is_begun (after.bypass i) ≡ true
      more i a (inl q) = ap (λ j. is_begun (after.bypass j)) q ∙ here
      more i a (inr q) = else i q ∙ a

      none : (q i : ℕ) → (after.bypass q).stage ≡ 1 → is_linked (after.owner i) ≡ true → (g.central i).pair ≡ (g.central q).pair →
          (q ≡ o) ⊎ (nat_eq q o ≡ false) → is_begun (after.bypass i) ≡ true
      none q i s a e (inl n) = all i (was_linked i a) (e ∙ ap (λ j. (g.central j).pair) n) (same_word i o)
      none q i s a e (inr n) = more i (law.live.none_live q i (stage q n s) (was_linked i a) e) (same_word i o)

      not_first : (q : ℕ) → nat_eq q o ≡ false → (after.bypass q).stage ≡ 1 → (g.central q).pair ≡ (g.central o).pair → ⊥
      not_first q n s e = true≢false (sym (law.live.none_live q o (stage q n s) is.linked (sym e)) ∙ is.live)

      one : (q j : ℕ) → (after.bypass q).stage ≡ 1 → (after.bypass j).stage ≡ 1 → (g.central q).pair ≡ (g.central j).pair →
          (q ≡ o) ⊎ (nat_eq q o ≡ false) → (j ≡ o) ⊎ (nat_eq j o ≡ false) → q ≡ j
      one q j s t e (inl n) (inl m) = n ∙ sym m
      one q j s t e (inl n) (inr m) = absurd (not_first j m t (sym e ∙ ap (λ i. (g.central i).pair) n))
      one q j s t e (inr n) (inl m) = absurd (not_first q n s (e ∙ ap (λ i. (g.central i).pair) m))
      one q j s t e (inr n) (inr m) = law.live.one_begun q j (stage q n s) (stage j m t) e

  -- of the word of the bypass that begins
  word-begun : HasWord v after o
  word-begun = let old = law.words.each o in record {
    unused = λ h. c.words o ∙ old.unused (sym (linked-begun g k o fresh p o is.owner) ∙ h);
    begun_stable = λ s a. ap (λ z. has z.stable s) (c.words o) ∙ is.stable s;
    begun_holder = λ s a. ap (λ z. has z.holder s) (c.words o) ∙ is.holder s ∙ ap (same_side s) (sym (side-here law is c new));
    stable = λ s a f n. absurd (begins f);
    holder = λ s a f n. absurd (begins f);
    left_held = λ s h. rw (left-begun g k o fresh p (Central o) A, left-begun g k o fresh p (Central o) B, c.words o)
        (old.left_held s (sym (left-begun g k o fresh p (Central o) s) ∙ h));
    held_stable = λ s t h. ap (λ z. has z.stable t) (c.words o) ∙ old.held_stable s t (sym (ap (λ z. has z.holder s) (c.words o)) ∙ h);
    one_holder = λ s t a d. old.one_holder s t (sym (ap (λ z. has z.holder s) (c.words o)) ∙ a)
        (sym (ap (λ z. has z.holder t) (c.words o)) ∙ d);
    begun_source = λ a l. ap (λ (t : Word). t.source) (c.words o) ∙ is.source ∙
        ap Some (sym (node-begun g k o fresh p (inner_link p) B) ∙
        ap (λ t. side_node after (inner_link t.inner) B) (sym (begun-here g k o fresh p)));
  }
    where
      begins : is_begun (after.bypass o) ≡ false → ⊥
      begins f = let n : nat_eq o o ≡ false = word-not o f in grind (arith, n, nat_tests)

  -- the records tell the same of each other
  keeps-word : (i : ℕ) → nat_eq i o ≡ false → KeepsWord w v g after i
  keeps-word i n = let e = begun-else g k o fresh p i n in record {
    word = c.words i;
    linked = linked-begun g k o fresh p i is.owner;
    begun = ap is_begun e;
    early = λ l. rw e at l;
    side = λ b. side-begun g k o fresh p i n;
    inner = λ b. ap (λ t. side_node after (inner_link t.inner) B) e ∙ node-begun g k o fresh p (inner_link (g.bypass i).inner) B;
    left = left-begun g k o fresh p (Central i);
    marked = λ s l b d. stands s l b (λ z. z.marked);
    holds = λ s l b d. stands s l b (λ z. z.holds);
  }
    where
      stands : (s : Side) → is_linked (g.owner i) ≡ true → is_begun (g.bypass i) ≡ false → (test : Router → Bool) →
          key_passes v (side_router after (Central i) s) test ≡ key_passes w (side_router g (Central i) s) test
      stands s l b test = ap (λ q. key_passes v q test) (router-begun g k o fresh p (Central i) s) ∙
          passes-else test (side_router g (Central i) s) (not-here i s l b n)

  pub words-begun : Words v after
  words-begun = record {
    each = by_word o {P = HasWord v after} word-begun (λ i n. word-kept {w = w} (keeps-word i n) (law.words.each i));
    source = sourced-by w v (λ q z at h. elim (before q z at) [
      | inl a ↦ had-itself w q z a.0
      | inr a ↦ absurd (grind (arith, ap (λ (t : Router). t.holds) a.1, new.holds, h))
    ]) (λ q z e i at m l. ap (λ (t : Word). t.source) (c.words i)) law.words.source;
  }

  pub spares-begun : Spares v after
  unfolding spare_of
  spares-begun = record {
    spare = λ q z i at d. elim (before q z at) [
      | inl a ↦ let e : g.owner i ≡ Spare q = law.spares.spare q z i a.0 d in
          owner i (Spare q) e (λ f. a.1 (spare_same q k (sym f ∙ is.owner)))
      | inr a ↦ absurd
          (none-some i (sym (ap (λ t. t.spare) a.1 ∙ new.spare) ∙ d))
    ];
    spare_back = λ q i h. back q i h (nat_eq i fresh) refl;
    opening = λ n i e. let f : g.owner i ≡ Opening n = law.spares.opening n i (sym (c.nodes n).opening ∙ e) in
        owner i (Opening n) f (λ t. grind (arith, t, is.owner));
    opening_back = λ n i e. (c.nodes n).opening ∙ law.spares.opening_back n i (grind (arith, e, nat_tests));
    fresh = λ j i e. stage j i e (nat_eq i fresh) refl;
    fresh_back = λ j i e. named j i e (nat_eq i fresh) refl;
  }
    where
      spare_same : (i j : Key) → Spare i ≡ Spare j → i ≡ j
      spare_same i j e = cc

      owner : (i : ℕ) (x : Owner) → g.owner i ≡ x → (g.owner fresh ≡ x → ⊥) → after.owner i ≡ x
      owner i x e apart = go (nat_eq i fresh) refl
        where
          go : (t : Bool) → nat_eq i fresh ≡ t → after.owner i ≡ x
          go true n = absurd (apart (let f : fresh ≡ i = grind (arith, n, nat_tests) in ap g.owner f ∙ e))
          go false n = grind (arith, n, e)

      back : (q : Key) (i : ℕ) → after.owner i ≡ Spare q → (t : Bool) → nat_eq i fresh ≡ t → spare_of (router_at v q) ≡ Some i
      back q i h true n = absurd (grind (arith, h, n))
      back q i h false n = go (same_key_tells q k)
        where
          e : spare_of (router_at w q) ≡ Some i
          e = law.spares.spare_back q i (grind (arith, h, n))

          go : ((same_key q k ≡ true) × (q ≡ k)) ⊎ ((same_key q k ≡ false) × (q ≢ k)) → spare_of (router_at v q) ≡ Some i
          go (inl a) = absurd (grind (arith, e, a, is.here, is.spare, n, nat_tests))
          go (inr a) = grind (arith, e, a, c.routers q)

      stage : (j i : ℕ) → after.owner i ≡ Fresh j → (t : Bool) → nat_eq i fresh ≡ t → (after.bypass j).stage ≡ 1
      stage j i e true n = let f : j ≡ o = grind (arith, e, n) in
          ap (λ t. (after.bypass t).stage) f ∙ ap (λ t. t.stage) (begun-here g k o fresh p)
      stage j i e false n = let f : (g.bypass j).stage ≡ 1 = law.spares.fresh j i (grind (arith, e, n)) in
          ap (λ t. t.stage) (begun-else g k o fresh p j (not-begun law is c new j (grind (arith, f, nat_tests)))) ∙ f

      named : (j i : ℕ) → after.owner i ≡ Fresh j → (t : Bool) → nat_eq i fresh ≡ t → (after.bypass j).fresh ≡ i
      named j i e true n = let f : j ≡ o = grind (arith, e, n) in
          ap (λ t. (after.bypass t).fresh) f ∙ ap (λ t. t.fresh) (begun-here g k o fresh p) ∙ grind (arith, n, nat_tests)
      named j i e false n = let x : g.owner i ≡ Fresh j = grind (arith, e, n) in let f : (g.bypass j).stage ≡ 1 = law.spares.fresh j i x in
          ap (λ t. t.fresh) (begun-else g k o fresh p j (not-begun law is c new j (grind (arith, f, nat_tests)))) ∙
          law.spares.fresh_back j i x

  late-old : (j n : ℕ) → 2 ≤ n → n ≤ (after.bypass j).stage → n ≤ (g.bypass j).stage
  late-old j n a d = subst (λ t. n ≤ t.stage) (begun-else g k o fresh p j (late-else j (omega (arith, a, d)))) d

  -- the inner link of another bypass
  inner-else : (j : ℕ) → is_begun (g.bypass j) ≡ true → same_key (g.bypass j).inner p ≡ false
  inner-else j a = not-inner law is c new (g.bypass j).inner (ap is_some ((law.bypasses j).inner_by a))

  born-else : (i j : ℕ) → is_linked (after.owner i) ≡ true → (g.central i).born ≡ Some j → nat_eq j o ≡ false
  born-else i j l e = not-begun law is c new j
      (grind (arith, (law.bypasses j).born_stage i (sym (linked-begun g k o fresh p i is.owner) ∙ l) e, nat_tests))

  other-owner : (i : ℕ) (x : Owner) → g.owner i ≡ x → (g.owner fresh ≡ x → ⊥) → after.owner i ≡ x
  other-owner i x e apart = go (nat_eq i fresh) refl
    where
      go : (t : Bool) → nat_eq i fresh ≡ t → after.owner i ≡ x
      go true n = absurd (apart (let f : fresh ≡ i = grind (arith, n, nat_tests) in ap g.owner f ∙ e))
      go false n = grind (arith, n, e)

  -- of the bypass that begins
  bypass-begun : IsBypassRecorded v after o
  bypass-begun = let here = begun-here g k o fresh p in record {
    stage = grind (arith, here);
    old = λ a. linked-begun g k o fresh p o is.owner ∙ is.linked;
    inner = λ a. ap (λ t. is_recorded v after (inner_link t.inner)) here ∙ rec-begun law is c new (inner_link p) ∙ is.inner_recorded;
    inner_by = λ a. ap (λ t. (after.peripheral t.inner).by) here ∙ by-inner g k o fresh p p ∙
        ap (λ t. cond t (Some o) (g.peripheral p).by) (same_key-itself p);
    pair = λ a. ap (λ t. (after.peripheral t.inner).end.pair) here ∙ ap (λ t. t.pair) (end_at g k o fresh p p ∙ is.inner_end) ∙ sym is.pair;
    proxy_old = λ a. router-begun g k o fresh p (Central o) _ ∙ ap (side_router g (Central o)) (side-here law is c new) ∙ is.known ∙
        ap (λ t. Some t.proxy) (sym here);
    proxy_inner = λ a. router-begun g k o fresh p _ A ∙ ap (λ t. side_router g (inner_link t.inner) A) here ∙ is.inner_known ∙
        ap (λ t. Some t.proxy) (sym here);
    across = λ a. ap is_some (router-begun g k o fresh p (Central o) _ ∙
        ap (λ t. side_router g (Central o) (opposite t)) (side-here law is c new) ∙ is.across.known);
    fresh = λ a. ap (λ t. after.owner t.fresh) here ∙ grind (arith, nat_tests);
    fresh_linked = λ l. absurd (first 2 (omega arith) l);
    fresh_born = λ l. absurd (first 2 (omega arith) l);
    fresh_pair = λ l. absurd (first 2 (omega arith) l);
    inner_known = λ l. absurd (first 2 (omega arith) l);
    fresh_inner = λ l. absurd (first 2 (omega arith) l);
    fresh_inner_node = λ l. absurd (first 2 (omega arith) l);
    fresh_across_node = λ l. absurd (first 2 (omega arith) l);
    fresh_awaited = λ e. absurd (first 2 (omega arith) (omega (arith, e)));
    fresh_across = λ l. absurd (first 3 (omega arith) l);
    born_fresh = λ i l e. absurd (unborn i l e);
    born_stage = λ i l e. absurd (unborn i l e);
  }
    where
      first : (n : ℕ) → 2 ≤ n → n ≤ (after.bypass o).stage → ⊥
      first n two l = grind (arith, begun-here g k o fresh p, two, l)

      unborn : (i : ℕ) → is_linked (after.owner i) ≡ true → (g.central i).born ≡ Some o → ⊥
      unborn i l e = let n : nat_eq o o ≡ false = born-else i o l e in grind (arith, n, nat_tests)

  -- the records tell the same of each other
  keeps-else : (j : ℕ) → nat_eq j o ≡ false → KeepsBypass w v g after j
  keeps-else j n = record {
    same = subst (IsSameBypass (g.bypass j)) (sym (begun-else g k o fresh p j n)) (same_bypass (g.bypass j));
    old = λ a. record {
      linked = λ e. linked-begun g k o fresh p j is.owner ∙ e;
      recorded = λ e. rec-begun law is c new (inner_of g j) ∙ e;
      by = by-inner g k o fresh p (g.bypass j).inner ∙ ap (λ t. cond t (Some o) (g.peripheral (g.bypass j).inner).by) (inner-else j a);
      inner_pair = ap (λ t. t.pair) (end_at g k o fresh p (g.bypass j).inner);
      pair = refl;
      side = side-begun g k o fresh p j n;
      router = router-begun g k o fresh p (Central j);
      node = node-begun g k o fresh p (Central j);
      inner_router = router-begun g k o fresh p (inner_of g j) A;
    };
    fresh = λ e one. other-owner (g.bypass j).fresh (Fresh j) one (λ f. grind (arith, f, is.owner));
    late = λ l. record {
      linked = λ e. other-owner (g.bypass j).fresh Linked e (λ f. grind (arith, f, is.owner));
      born = refl;
      pair = refl;
      router = router-begun g k o fresh p (fresh_of g j);
      node = node-begun g k o fresh p (fresh_of g j);
      inner_router = router-begun g k o fresh p (inner_of g j) B;
      inner_node = node-begun g k o fresh p (inner_of g j) B;
    };
    born = λ i l e. (sym (linked-begun g k o fresh p i is.owner) ∙ l, e);
  }

  pub bypasses-begun : BypassRecords v after
  bypasses-begun = by_word o {P = IsBypassRecorded v after} bypass-begun (λ j n. bypass-kept {w = w} (keeps-else j n) (law.bypasses j))

  pub stages-begun : Stages v after
  stages-begun j = record {
    proxy_old = by_word o {P = λ j. is_begun (after.bypass j) ≡ true → (after.bypass j).stage ≤ 3 →
        key_passes v (Some (after.bypass j).proxy) (has_decaying (Central j) (proxy_side after j)) ≡ true}
        (λ a d. ap (λ t. key_passes v (Some t.proxy) (has_decaying (Central o) (proxy_side after o))) (begun-here g k o fresh p)
        ∙ here (has_decaying (Central o) (proxy_side after o)) (has_link-is y.outward.decaying out (Central o) _ new.decaying is.outer_at
        (is.outer_side ∙ sym (side-here law is c new))))
        (λ j n a d. ap (λ t. key_passes v (Some t.proxy) (has_decaying (Central j) (proxy_side after j))) (begun-else g k o fresh p j n) ∙
        ap (λ t. key_passes v (Some (g.bypass j).proxy) (has_decaying (Central j) t)) (side-begun g k o fresh p j n)
        ∙ passes-else _ (Some (g.bypass j).proxy) (apart j n a) ∙ (law.stages j).proxy_old (was j n a) (early j 3 n d)) j;
    proxy_inner = by_word o {P = λ j. is_begun (after.bypass j) ≡ true → (after.bypass j).stage ≤ 3 →
        key_passes v (Some (after.bypass j).proxy) (has_inward_decaying (inner_of after j) A) ≡ true}
        (λ a d. ap (λ t. key_passes v (Some t.proxy) (has_inward_decaying (inner_link t.inner) A)) (begun-here g k o fresh p) ∙ here
        (has_inward_decaying (inner_link p) A) (has_link-is (inward_edge y).decaying into (inner_link p) A new.inward_decaying
        is.inner_at is.inner_side))
        (λ j n a d. ap (λ t. key_passes v (Some t.proxy) (has_inward_decaying (inner_link t.inner) A)) (begun-else g k o fresh p j n) ∙
        passes-else _ (Some (g.bypass j).proxy) (apart j n a) ∙ (law.stages j).proxy_inner (was j n a) (early j 3 n d)) j;
    proxy_begun = λ z a at. begun j z a at (nat_eq j o) refl;
    proxy_end = λ z a at. ends j z a at (nat_eq j o) refl;
    across_old = by_word o {P = λ j. is_begun (after.bypass j) ≡ true → (after.bypass j).stage ≤ 2 →
        key_passes v (side_router after (Central j) (across_side after j)) (has_primary (Central j) (across_side after j)) ≡ true}
        (λ a d. ap (λ t. key_passes v t (has_primary (Central o) (across_side after o))) across-now ∙ other-router
        (has_primary (Central o) (across_side after o)) (ap (λ t. has_primary (Central o) (opposite t) is.across.router)
        (side-here law is c new) ∙
        is.across.primary))
        (λ j n a d. ap (λ t. key_passes v t (has_primary (Central j) (across_side after j))) (across-then j n) ∙ ap
        (λ t. key_passes v (side_router g (Central j) (across_side g j)) (has_primary (Central j) (opposite t)))
        (side-begun g k o fresh p j n)
        ∙ passes-else _ _ (not-k j n a d) ∙ (law.stages j).across_old (was j n a) (early j 2 n d)) j;
    across_marked = by_word o {P = λ j. is_begun (after.bypass j) ≡ true → (after.bypass j).stage ≤ 2 →
        key_passes v (side_router after (Central j) (across_side after j)) (λ z. z.marked) ≡ true}
        (λ a d. ap (λ t. key_passes v t (λ z. z.marked)) across-now ∙ other-router (λ z. z.marked) is.across.marked)
        (λ j n a d. ap (λ t. key_passes v t (λ z. z.marked)) (across-then j n) ∙ passes-else _ _ (not-k j n a d) ∙
        (law.stages j).across_marked (was j n a) (early j 2 n d)) j;
    across_free = by_word o {P = λ j. is_begun (after.bypass j) ≡ true → (after.bypass j).stage ≤ 2 →
        key_passes v (side_router after (Central j) (across_side after j)) (λ z. not z.holds) ≡ true}
        (λ a d. ap (λ t. key_passes v t (λ z. not z.holds)) across-now ∙ other-router (λ z. not z.holds) (ap not is.across.free))
        (λ j n a d. ap (λ t. key_passes v t (λ z. not z.holds)) (across-then j n) ∙ passes-else _ _ (not-k j n a d) ∙
        (law.stages j).across_free (was j n a) (early j 2 n d)) j;
    across_fresh = λ a d. let n = late-else j (omega (arith, a)) in
        ap (λ t. key_passes v t (has_primary (fresh_of after j) (across_side after j))) (router-begun g k o fresh p _ _)
        ∙ ap (λ t. key_passes v (side_router g (Central t.fresh) (across_side after j))
        (has_primary (Central t.fresh) (across_side after j))) (begun-else g k o fresh p j n)
        ∙ ap (λ t. key_passes v (side_router g (fresh_of g j) (opposite t)) (has_primary (fresh_of g j) (opposite t)))
        (side-begun g k o fresh p j n)
        ∙ passes-begun _ (side_router g (fresh_of g j) (across_side g j))
        ((law.stages j).across_fresh (late-old j 3 (omega arith) a) (early j 4 n d))
        (λ u h. absurd (fresh-not j n a d (had-primary (fresh_of g j) (across_side g j) h)));
    inner_primary = by_word o {P = λ j. (q : Key) → (after.bypass j).stage ≡ 1 → side_router after (inner_of after j) B ≡ Some q →
        key_passes v (Some q) (has_primary (inner_of after j) B) ≡ true}
        (λ q a e. ap (λ t. key_passes v (Some q) (has_primary (inner_link t.inner) B)) (begun-here g k o fresh p)
        ∙ passes-begun _ (Some q) (law.stands.inner p q is.inner_recorded is.inner_free
        (inner_unleft law is c new) (sym (router-begun g k o fresh p (inner_link p) B) ∙ ap (λ t. side_router after (inner_link t.inner) B)
        (sym (begun-here g k o fresh p)) ∙ e)) (λ u h. absurd (kinds p (had-primary (inner_link p) B h))))
        (λ j n q a e. ap (λ t. key_passes v (Some q) (has_primary (inner_link t.inner) B)) (begun-else g k o fresh p j n)
        ∙ passes-begun _ (Some q) ((law.stages j).inner_primary q (sym (ap (λ t. t.stage) (begun-else g k o fresh p j n)) ∙ a)
        (sym (router-begun g k o fresh p (inner_of g j) B) ∙ ap (λ t. side_router after (inner_link t.inner) B)
        (sym (begun-else g k o fresh p j n)) ∙ e)) (λ u h. absurd (kinds (g.bypass j).inner (had-primary (inner_of g j) B h)))) j;
    inner_decaying = λ a d. let n = late-else j a in
        ap (λ t. key_passes v t (has_decaying (inner_of after j) B)) (router-begun g k o fresh p _ B) ∙ ap
        (λ t. key_passes v (side_router g (inner_link t.inner) B) (has_decaying (inner_link t.inner) B)) (begun-else g k o fresh p j n)
        ∙ passes-begun _ (side_router g (inner_of g j) B) ((law.stages j).inner_decaying (late-old j 2 (omega arith) a) (early j 4 n d))
        (λ u h. absurd (still (inner_of g j) B h));
  }
    where
      was : (j : ℕ) → nat_eq j o ≡ false → is_begun (after.bypass j) ≡ true → is_begun (g.bypass j) ≡ true
      was j n a = ap is_begun (sym (begun-else g k o fresh p j n)) ∙ a

      early : (j i : ℕ) → nat_eq j o ≡ false → (after.bypass j).stage ≤ i → (g.bypass j).stage ≤ i
      early j i n a = subst (λ t. t.stage ≤ i) (begun-else g k o fresh p j n) a

      kinds : (i : Key) → inner_link i ≡ Central o → ⊥
      kinds i e = cc

      here : (test : Router → Bool) → test y ≡ true → key_passes v (Some k) test ≡ true
      here test t = grind (arith, standing_rules, c.routers k, same_key-itself k, t)

      apart : (j : ℕ) → nat_eq j o ≡ false → is_begun (after.bypass j) ≡ true → Some (g.bypass j).proxy ≡ Some k → ⊥
      apart j n a e = is.unbegun j (was j n a) (same_Some _ _ e)

      across-now : side_router after (Central o) (across_side after o) ≡ Some is.across.key
      across-now = router-begun g k o fresh p (Central o) _ ∙ ap (λ t. side_router g (Central o) (opposite t)) (side-here law is c new) ∙
          is.across.known

      across-then : (j : ℕ) → nat_eq j o ≡ false → side_router after (Central j) (across_side after j) ≡ side_router g (Central j)
          (across_side g j)
      across-then j n = router-begun g k o fresh p (Central j) _ ∙ ap (λ t. side_router g (Central j) (opposite t))
          (side-begun g k o fresh p j n)

      -- the router across isn't this one: it doesn't hold
      other-router : (test : Router → Bool) → test is.across.router ≡ true → key_passes v (Some is.across.key) test ≡ true
      other-router test t = passes-else test (Some is.across.key)
          (λ e. grind (arith, same_Some is.across.key k e, is.across.at, is.here, is.across.free, is.holds)) ∙ grind
          (arith, standing_rules, is.across.at, t)

      not-k : (j : ℕ) → nat_eq j o ≡ false → is_begun (after.bypass j) ≡ true → (after.bypass j).stage ≤ 2 →
          side_router g (Central j) (across_side g j) ≡ Some k → ⊥
      not-k j n a d e =
          let f : Central j ≡ Central o = had-primary (Central j) (across_side g j)
          (grind (arith, standing_rules, (law.stages j).across_old (was j n a) (early j 2 n d), e, is.here)) in
          grind (arith, word_same law is c new j o f, n, nat_tests)

      -- a marked router has nothing that decays
      unmarked : (q : Option Key) (l : LinkId) (s : Side) → key_passes w q (λ z. z.marked) ≡ true →
          key_passes w q (has_decaying l s) ≡ true → ⊥
      unmarked None l s a d = grind (arith, standing_rules, a)
      unmarked (Some q) l s a d = go (router_at w q) refl
        where
          go : (x : Option Router) → router_at w q ≡ x → ⊥
          go None e = grind (arith, standing_rules, a, e)
          go (Some z) e =
              let t : HasEnd z.outward.decaying l s = has_link-tells z.outward.decaying l s (grind (arith, standing_rules, d, e)) in
              grind (arith, (law.shape q z e).marked_still (grind (arith, standing_rules, a, e)), t.there)

      fresh-not : (j : ℕ) → nat_eq j o ≡ false → 3 ≤ (after.bypass j).stage → (after.bypass j).stage ≤ 4 → fresh_of g j ≡ Central o → ⊥
      fresh-not j n a d e = unmarked (side_router g (inner_of g j) B) (inner_of g j) B
          (ap (λ q. key_passes w q (λ z. z.marked)) (sym (ap (λ l. side_router g l (proxy_side g j)) (sym e) ∙ (law.bypasses j).fresh_inner
          (late-old j 2 (omega arith) (omega (arith, a))))) ∙
          sym ((law.words.each o).stable (proxy_side g j) is.linked is.live (central_unleft law is c new o (proxy_side g j) is.pair)) ∙ is.stable
          (proxy_side g j))
          ((law.stages j).inner_decaying (late-old j 2 (omega arith) (omega (arith, a))) (early j 4 n d))

      still : {X : Type 0} (l : LinkId) (s : Side) → has_decaying l s r ≡ true → X
      still l s h = let t : HasEnd r.outward.decaying l s = has_link-tells r.outward.decaying l s h in
          absurd (none-some t.end (sym is.still ∙ t.there))

      inner-end : side_end g (inner_link p) A ≡ r.end
      inner-end = ap (λ l. side_end g l A) (sym is.inner_at) ∙ ap (side_end g into.link) (sym is.inner_side) ∙ sym
          (((links-in law) k r is.here).inward_primary into is.inner).end

      old : (j : ℕ) (z : Router) → nat_eq j o ≡ false → is_begun (after.bypass j) ≡ true → router_at v (after.bypass j).proxy ≡ Some z →
          router_at w (g.bypass j).proxy ≡ Some z
      old j z n a at = elim (before (g.bypass j).proxy z (ap (λ t. router_at v t.proxy) (sym (begun-else g k o fresh p j n)) ∙ at))
          [ inl e ↦ e.0 | inr e ↦ absurd (is.unbegun j (was j n a) e.0) ]

      begun : (j : ℕ) (z : Router) → is_begun (after.bypass j) ≡ true → router_at v (after.bypass j).proxy ≡ Some z → (t : Bool) →
          nat_eq j o ≡ t → is_begun_router z ≡ true
      begun j z a at true n = let f : j ≡ o = grind (arith, n, nat_tests) in
          let d : router_at v k ≡ Some z = ap (router_at v) (sym (ap (λ t. (after.bypass t).proxy) f ∙ ap (λ t. t.proxy)
          (begun-here g k o fresh p))) ∙ at in
          let e : z ≡ y = grind (arith, c.routers k, same_key-itself k, d) in grind (arith, e, new.proxy, new.inward_primary)
      begun j z a at false n = (law.stages j).proxy_begun z (was j n a) (old j z n a at)

      ends : (j : ℕ) (z : Router) → is_begun (after.bypass j) ≡ true → router_at v (after.bypass j).proxy ≡ Some z → (t : Bool) →
          nat_eq j o ≡ t → z.end ≡ side_end after (inner_of after j) A
      ends j z a at true n = let f : j ≡ o = grind (arith, n, nat_tests) in
          let d : router_at v k ≡ Some z = ap (router_at v) (sym (ap (λ t. (after.bypass t).proxy) f ∙ ap (λ t. t.proxy)
          (begun-here g k o fresh p))) ∙ at in
          let e : z ≡ y = grind (arith, c.routers k, same_key-itself k, d) in
          ap (λ t. t.end) e ∙ new.end ∙ sym (end-begun g k o fresh p _ A ∙ ap (λ t. side_end g (inner_link (after.bypass t).inner) A) f ∙ ap
          (λ t. side_end g (inner_link t.inner) A) (begun-here g k o fresh p) ∙ inner-end)
      ends j z a at false n = (law.stages j).proxy_end z (was j n a) (old j z n a at) ∙ sym
          (end-begun g k o fresh p _ A ∙ ap (λ t. side_end g (inner_link t.inner) A) (begun-else g k o fresh p j n))
