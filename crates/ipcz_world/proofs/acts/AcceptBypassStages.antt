-- The router across takes the fresh link: who stands where, the words, and the bypass a stage further with its next message.
use Rattle.ipcz_world.proofs.frames.Booking.{flag}
use Rattle.std.specs.Prelude.{◌||◌, length as list_length}
use Rattle.std.proofs.Common.{subst}
use Rattle.ipcz_world.proofs.Vocabulary.{IsRecorded, opposite_end, Side, A, B, End, LinkId, Central, LinkEnd, Message, opposite, has_link, Router}
use Rattle.ipcz_world.proofs.Vocabulary.{World, Key, same_key, word_at, router_at, Books, Records, is_begun, is_linked, inner_link, side_node}
use Rattle.ipcz_world.proofs.Vocabulary.{side_router, side_end, proxy_side, across_side, has_primary, has_decaying, has_inward_decaying, passes}
use Rattle.ipcz_world.proofs.Vocabulary.{key_passes, IsUnderWay, of_end, moves_of, is_made_before, under_way, total_list, Words, Stands, Stages, Controls}
use Rattle.ipcz_world.proofs.Vocabulary.{of_bypass, control_weight, inner_of, Descriptor, RetiredEnds, Gones, is_left, is_retired, has_inward_primary}
use Rattle.ipcz_world.proofs.Vocabulary.{fresh_of, no_edge, accept_bypass}
use Rattle.ipcz_world.proofs.frames.Sealing.{links_of}
use Rattle.ipcz_world.proofs.acts.AcceptBypassAround.{z_here, fresh_known}
use Rattle.ipcz_world.proofs.acts.AcceptBypassAround as around
use Rattle.std.proofs.Common.{true≢false}
use Rattle.ipcz_world.proofs.frames.OneChange.{passes-same}
use Rattle.ipcz_world.proofs.frames.Unmoved.{is_left-agree}
use Rattle.ipcz_world.proofs.frames.Sealing.{retired_ends_of, gones_of}
use Rattle.ipcz_world.proofs.frames.GonesKept.{gones-hand}
use Rattle.ipcz_base.specs.Ends as ends
use Rattle.ipcz_world.proofs.frames.LeftSides.{not_left}
use Rattle.ipcz_world.proofs.frames.Sourcing.{sourced-by, had-one}
use Rattle.ipcz_word.specs.Word.{Word}
use Rattle.ipcz_world.proofs.frames.Unmoved.{side_node-agree}
use Rattle.std.specs.Prelude.{◌≡◌, ◌≢◌, ◌⊎◌, ◌≤◌, ℕ, ◌+◌, Bool, true, false, cond, ◌&&◌, nat_eq, is_some, is_none, not, Option, Some, None}
use Rattle.std.specs.Prelude.{unwrap_or, refl}
use Rattle.std.proofs.Common.{arith, ap, ◌∙◌, sym, inl, inr}
use Rattle.std.proofs.lemmas.Bool.Decides.{nat_tests}
use Rattle.std.proofs.lemmas.Option.{none-some, same_Some}
use Rattle.ipcz_base.specs.declared.message.Message.TheVariants as messages
use Rattle.ipcz_world.proofs.frames.Frames.{same_key_tells, same_key-itself}
use Rattle.ipcz_world.proofs.frames.StandingRules.{key_passes-none, standing_rules}
use Rattle.ipcz_world.proofs.facts.RecordsAfter.{accepted_records}
use Rattle.ipcz_world.proofs.frames.Unmoved.{side_node-agree, side_end-agree, bypass_of-agree, side_router-inner-agree, about-agree}
use Rattle.ipcz_world.proofs.frames.Unmoved.{expected-agree, proxy_side-agree, is_recorded-kept, WasLike}
use Rattle.ipcz_world.proofs.frames.Handing.{handed_on, word-handed_on, place_before, was_under_way, was_made_before, under_way-handed_on}
use Rattle.ipcz_world.proofs.facts.Lengths.{opposite-twice, same_side-itself, has_link-tells, has_link-some, has_link-none, HasEnd, passed}
use Rattle.ipcz_world.proofs.frames.Sealing.{Sealed, Closed, stands_of, words_of, shape_of, stages_of, controls_of, bypasses_of}
use Rattle.ipcz_world.proofs.acts.AcceptBypassAround.{CanAccept, here, in_hand, on, on_node, from_node, is, begun, on_old, at_side, still}
use Rattle.ipcz_world.proofs.acts.AcceptBypassAround.{y_stood, y_here, y_old, y_known, fresh_awaited}
use Rattle.ipcz_world.proofs.acts.AcceptBypassViews.{at_o, changed, agree, e_other, to_node, is_new, router_of, stage_after}
use Rattle.ipcz_world.proofs.acts.AcceptBypassViews.{accepted_after, taken_after, proxy_is_after, same_bypass, is_new-here, new_at}
use Rattle.ipcz_world.proofs.acts.AcceptBypassViews.{makes_new, none_before, not_new-old}
use Rattle.ipcz_world.proofs.acts.AcceptBypassNumbers.{router_j, was_proxy, two_of, across_side-after, across_is_after}
use Rattle.ipcz_world.proofs.acts.AcceptBypassLinks.{known_after, central_is, not_both}
use Rattle.ipcz_world.proofs.facts.Tests.{nat_eq-itself}
use Rattle.ipcz_world.proofs.facts.Updates.{tells_stop}
use Rattle.ipcz_world.proofs.frames.WordsKept.{word-kept}

old_end : (g : Records) (o : ℕ) (s : Side) → side_end g (Central o) s ≡ ends.end_at (g.central o).pair s
unfolding side_end
old_end g o s = refl

module _ {w : World} {b : Books} {g : Records} {from : ℕ} {k : Key} {r : Router} {e : LinkEnd} {o : ℕ} {side : Side} {fresh length : ℕ}
    (law : Sealed w b g) (can : Closed (CanAccept w from k r e o side fresh length)) where
  abbrev y : Router
  y = (y_stood law can).router

  -- what the hand makes of the router, the world and the records
  abbrev x : Router
  x = accept_bypass r from side fresh length

  abbrev sent : Message
  sent = tells_stop r o side length

  abbrev v : World
  v = handed_on w from k x e.other sent

  abbrev h : Records
  h = accepted_records g k r o side fresh

  abbrev before : ℕ → ℕ → ℕ → ℕ
  before a c i = place_before from k.node a c i

  -- who passes a test passes it still, if the changed router does
  keep : (q : Option Key) (test : Router → Bool) → key_passes w q test ≡ true → (q ≡ Some k → test r ≡ true → test x ≡ true) →
      key_passes v q test ≡ true
  unfolding key_passes passes
  keep None test p more = absurd (grind (arith, p))
  keep (Some q) test p more = go (same_key_tells q k)
    where
      go : ((same_key q k ≡ true) × (q ≡ k)) ⊎ ((same_key q k ≡ false) × (q ≢ k)) → key_passes v (Some q) test ≡ true
      go (inl m) = let a : test r ≡ true = sym (passed w k r test (here law can)) ∙ rw m.1 at p in
          passed v q x test (router_j law can q ∙ ap (λ c. cond c (Some x) (router_at w q)) m.0) ∙ more (ap Some m.1) a
      go (inr m) = ap (λ c. passes c test) (router_j law can q ∙ ap (λ c. cond c (Some x) (router_at w q)) m.0) ∙ p

  -- the router across has no primary link but the old one
  only_old : (i : ℕ) (s : Side) → has_primary (Central i) s r ≡ true → (i ≡ o) × (s ≡ side)
  only_old i s p = let at : HasEnd r.outward.primary (Central i) s = has_link-tells r.outward.primary (Central i) s p in
      let same : at.end ≡ e = same_Some at.end e (sym at.there ∙ on law can) in (
        central_is law can i o (sym at.on_link ∙ ap (λ c. c.link) same ∙ on_old law can),
        sym at.at_side ∙ ap (λ c. c.side) same ∙
            at_side law can,
      )

  not_inner : (p : Key) (s : Side) → has_primary (inner_link p) s r ≡ true → ⊥
  not_inner p s t = let at : HasEnd r.outward.primary (inner_link p) s = has_link-tells r.outward.primary (inner_link p) s t in
      let same : at.end ≡ e = same_Some at.end e (sym at.there ∙ on law can) in
      not_both law can o p (sym (on_old law can) ∙ ap (λ c. c.link) (sym same) ∙ at.on_link)

  x_on_fresh : has_primary (Central fresh) side x ≡ true
  x_on_fresh = has_link-some (record { link = Central fresh; side = side; other = from }) (Central fresh) side refl refl

  at_x : (test : Router → Bool) → key_passes v (Some k) test ≡ test x
  at_x test = passed v k x test (router_j law can k ∙ ap (λ t. cond t (Some x) (router_at w k)) (same_key-itself k))

  left_same : (l : LinkId) (s : Side) → is_left h l s ≡ is_left g l s
  left_same l s = is_left-agree g h (agree law can) l s

  -- no end of the pair has retired, since its bypass is under way
  unretired : (s : Side) → is_retired b (ends.end_at r.end.pair s) ≡ false
  unretired s = let rec : IsRecorded w g k r e = ((links_of law) k r (here law can)).primary e (on law can) in
      ap (λ n. is_retired b (ends.end_at n s)) (ap (λ t. t.pair) rec.end ∙ ap (λ l. (side_end g l e.side).pair) (on_old law can) ∙ ap (λ t. t.pair) (old_end g o e.side)) ∙
      (retired_ends_of law).no_bypass o s (omega (arith, (is law can).stage)) (omega (arith, (is law can).stage))

  pub retired-accept : RetiredEnds b h
  retired-accept = record {
    retired = λ t a. (agree law can).terminal t ∙ (retired_ends_of law).retired t a;
    peer_closed = (retired_ends_of law).peer_closed;
    peer_stays = (retired_ends_of law).peer_stays;
    all_read = (retired_ends_of law).all_read;
    gone_read = λ t a n. (retired_ends_of law).gone_read t (sym ((agree law can).terminal t) ∙ a) n;
    no_bypass = λ j s l m. ap (λ n. is_retired b (ends.end_at n s)) ((agree law can).pair j) ∙ bypassed j s l m (at_o law can j);
    left = λ t i a l n p. left_same (Central i) t.side ∙ (retired_ends_of law).left t i a l (sym ((agree law can).is_begun i) ∙ n)
        (sym ((agree law can).pair i) ∙ p);
    left_of = λ l s n. ap (λ d. is_retired b d || is_retired b (opposite_end d)) (side_end-agree g h (agree law can) l s) ∙
        (retired_ends_of law).left_of l s (sym (left_same l s) ∙ n);
    accepted = λ j l. rw ((agree law can).pair j, across_side-after law can j) (low j l (at_o law can j));
  }
    where
      across_end : r.end ≡ ends.end_at (g.central o).pair (across_side g o)
      across_end = let rec : IsRecorded w g k r e = ((links_of law) k r (here law can)).primary e (on law can) in
          rec.end ∙ ap (λ l. side_end g l e.side) (on_old law can) ∙ old_end g o e.side ∙
          ap (ends.end_at (g.central o).pair) (at_side law can ∙ (is law can).at_side)

      low : (j : ℕ) → 3 ≤ (h.bypass j).stage → ((nat_eq j o ≡ true) × (j ≡ o)) ⊎ ((nat_eq j o ≡ false) × (j ≢ o)) →
          (h.bypass j).accepted_at + cond (is_retired b (ends.end_at (g.central j).pair (across_side g j))) 1 0 ≤
          list_length (b.put (ends.end_at (g.central j).pair (across_side g j)))
      low j l (inl c) = subst (λ n. (h.bypass n).accepted_at + cond (is_retired b (ends.end_at (g.central n).pair (across_side g n))) 1 0 ≤
          list_length (b.put (ends.end_at (g.central n).pair (across_side g n)))) (sym c.1) first
        where
          number : (h.bypass o).accepted_at ≡ r.out_queue.current
          number = rw (nat_eq-itself o) refl

          free : is_retired b (ends.end_at (g.central o).pair (across_side g o)) ≡ false
          free = (retired_ends_of law).no_bypass o (across_side g o) (omega (arith, (is law can).stage)) (omega (arith, (is law can).stage))

          first : (h.bypass o).accepted_at + cond (is_retired b (ends.end_at (g.central o).pair (across_side g o))) 1 0 ≤
              list_length (b.put (ends.end_at (g.central o).pair (across_side g o)))
          first = omega (
            arith,
            number,
            ap flag free,
            subst (λ d. r.out_queue.current ≤ list_length (b.put d)) across_end
                ((gones_of law).out_put k r (here law can)),
          )
      low j l (inr c) = rw c.0 ((retired_ends_of law).accepted j (rw c.0 at l))

      bypassed : (j : ℕ) (s : Side) → 1 ≤ (h.bypass j).stage → (h.bypass j).stage ≤ 4 →
          ((nat_eq j o ≡ true) × (j ≡ o)) ⊎ ((nat_eq j o ≡ false) × (j ≢ o)) → is_retired b (ends.end_at (g.central j).pair s) ≡ false
      bypassed j s l m (inl c) = (retired_ends_of law).no_bypass j s
          (subst (λ n. 1 ≤ (g.bypass n).stage) (sym c.1) (omega (arith, (is law can).stage)))
          (subst (λ n. (g.bypass n).stage ≤ 4) (sym c.1) (omega (arith, (is law can).stage)))
      bypassed j s l m (inr c) = (retired_ends_of law).no_bypass j s (rw c.0 at l) (rw c.0 at m)

  pub gones-accept : Gones v b h
  gones-accept = gones-hand w v b g h k r x (router_j law can) (here law can)
      (record { end = refl; current = refl; out = refl; inner = refl; terminal = refl; sent = refl; dropped = refl; closed = refl }) unretired
      (λ l s n. sym (left_same l s) ∙ n) mine (gones_of law)
    where
      mine : (d : LinkEnd) → x.outward.primary ≡ Some d → is_left h d.link (opposite d.side) ≡ false
      mine d p = let f = same_Some _ d p in ap (λ (t : LinkEnd). is_left h t.link (opposite t.side)) (sym f) ∙
          left_same (Central fresh) (opposite side) ∙ not_left w g (Central fresh) (opposite side) (around.zk law can) (around.z law can) (stands_of law)
          (fresh_known law can) (z_here law can)

  -- a link that isn't being bypassed has another router
  live_apart : (i : ℕ) (s : Side) → is_linked (g.owner i) ≡ true → is_begun (g.bypass i) ≡ false → side_router g (Central i) s ≡ Some k → ⊥
  live_apart i s l b' known' = let p : has_primary (Central i) s r ≡ true =
      sym (passed w k r (has_primary (Central i) s) (here law can)) ∙ (stands_of law).central i s k l b'
      (not_left w g (Central i) s k r (stands_of law) known' (here law can)) known' in
      grind (arith, (only_old i s p).0, b', begun law can)

  pub stands-accept : Stands v h
  stands-accept = record {
    central = λ i s q l b' nl known'. central_at i s q l (sym ((agree law can).is_begun i) ∙ b') (sym (left_same (Central i) s) ∙ nl) known' (is_new law can (Central i) s) refl;
    awaited = λ i s l none. ap is_some ((agree law can).born i) ∙ (stands_of law).awaited i s l (none_before law can i s none);
    awaited_stage = λ i s j l none born. awaited_stage_at i s j l none (sym ((agree law can).born i) ∙ born) (at_o law can j);
    awaited_side = λ i s j l none born. (stands_of law).awaited_side i s j l (none_before law can i s none)
        (sym ((agree law can).born i) ∙ born) ∙ sym
        (across_side-after law can j);
    proxy = λ p rec by nl. ap (λ q. key_passes v q (has_inward_primary (inner_link p) A)) (side_router-inner-agree g h (agree law can) p A) ∙
        keep
        (side_router g (inner_link p) A) (has_inward_primary (inner_link p) A)
        ((stands_of law).proxy p (sym (is_recorded-kept w v g h k r x (changed law can) (agree law can) (inner_link p)) ∙ rec) by
        (sym (left_same (inner_link p) A) ∙ nl))
        (λ m t. t);
    inner = λ p q rec by nl known'. keep (Some q) (has_primary (inner_link p) B)
        ((stands_of law).inner p q (sym (is_recorded-kept w v g h k r x (changed law can) (agree law can) (inner_link p)) ∙ rec) by (sym (left_same (inner_link p) B) ∙ nl)
        (sym (side_router-inner-agree g h (agree law can) p B) ∙ known')) (λ m t. absurd (not_inner p B t));
    by_begun = λ p j by. (agree law can).is_begun j ∙ (stands_of law).by_begun p j by;
    by_inner = λ p j by. (agree law can).inner j ∙ (stands_of law).by_inner p j by;
    left_recorded = λ l s n. is_recorded-kept w v g h k r x (changed law can) (agree law can) l ∙
        (stands_of law).left_recorded l s (sym (left_same l s) ∙ n);
    left_known = λ l s n. known_left l s (sym (left_same l s) ∙ n);
    left_gone = λ l s n. gone_left l s (sym (left_same l s) ∙ n);
    left_live = λ l s n. bypass_of-agree g h (agree law can) l ∙ (stands_of law).left_live l s (sym (left_same l s) ∙ n);
  }
    where
      left_old : (l : LinkId) (s : Side) → is_left g l s ≡ true → side_router h l s ≡ side_router g l s
      left_old l s n = go (is_new law can l s) refl
        where
          go : (t : Bool) → is_new law can l s ≡ t → side_router h l s ≡ side_router g l s
          go false t = router_of law can l s ∙ ap (λ c. cond c (Some k) (side_router g l s)) t
          go true t = let new : (l ≡ Central fresh) × (s ≡ side) = new_at law can l s t in
              let known2 : is_some (side_router g (Central fresh) side) ≡ true = rw (new.0, new.1) at ((stands_of law).left_known l s n) in
              absurd (true≢false (sym known2 ∙ ap is_some (fresh_awaited law can)))

      known_left : (l : LinkId) (s : Side) → is_left g l s ≡ true → is_some (side_router h l s) ≡ true
      known_left l s n = ap is_some (left_old l s n) ∙ (stands_of law).left_known l s n

      gone_left : (l : LinkId) (s : Side) → is_left g l s ≡ true → key_passes v (side_router h l s) (λ y. true) ≡ false
      gone_left l s n = ap (λ q. key_passes v q (λ y. true)) (left_old l s n) ∙
          passes-same (changed law can).one (λ y. true) refl (side_router g l s) ∙ (stands_of law).left_gone l s n

      central_at : (i : ℕ) (s : Side) (q : Key) → is_linked (g.owner i) ≡ true → is_begun (g.bypass i) ≡ false →
          is_left g (Central i) s ≡ false → side_router h (Central i) s ≡ Some q → (t : Bool) → is_new law can (Central i) s ≡ t →
          key_passes v (Some q) (has_primary (Central i) s) ≡ true
      central_at i s q l b' nl known' true t = let new : (Central i ≡ Central fresh) × (s ≡ side) = new_at law can (Central i) s t in
          let q_is : k ≡ q = same_Some k q
          (sym (router_of law can (Central i) s ∙ ap (λ c. cond c (Some k) (side_router g (Central i) s)) t) ∙
          known') in
          rw (← q_is, new.0, new.1) (at_x (has_primary (Central fresh) side) ∙ x_on_fresh)
      central_at i s q l b' nl known' false t = let known2 : side_router g (Central i) s ≡ Some q =
          sym (router_of law can (Central i) s ∙ ap (λ c. cond c (Some k) (side_router g (Central i) s)) t) ∙ known' in
          keep (Some q) (has_primary (Central i) s) ((stands_of law).central i s q l b' nl known2)
          (λ m p. absurd (live_apart i s l b' (known2 ∙ m)))

      awaited_stage_at : (i : ℕ) (s : Side) (j : ℕ) → is_linked (g.owner i) ≡ true → (h.central i).router s ≡ None →
          (g.central i).born ≡ Some j → ((nat_eq j o ≡ true) × (j ≡ o)) ⊎ ((nat_eq j o ≡ false) × (j ≢ o)) → (h.bypass j).stage ≡ 2
      awaited_stage_at i s j l none born (inr c) = rw c.0 ((stands_of law).awaited_stage i s j l (none_before law can i s none) born)
      awaited_stage_at i s j l none born (inl c) = let born' : (g.central i).born ≡ Some o = born ∙ ap Some c.1 in
          let on' : fresh ≡ i = (is law can).on_word ∙ (bypasses_of law o).born_fresh i l born' in
          let s' : s ≡ side = (stands_of law).awaited_side i s o l (none_before law can i s none) born' ∙ sym (is law can).at_side in
          let there : (h.central fresh).router side ≡ Some k.serial = rw (nat_eq-itself fresh, same_side-itself side) refl in
          let none' : (h.central fresh).router side ≡ None = rw (← on', s') at none in
          absurd (none-some k.serial (sym none' ∙ there))

  word_same : (i : ℕ) → word_at v i ≡ word_at w i
  word_same = word-handed_on w from k x e.other sent

  pub words-accept : Words v h
  words-accept = record {
    each = λ i. word-kept {w = w}
        (record {
          word = word_same i;
          linked = refl;
          begun = (agree law can).is_begun i;
          early = λ l. was_early i l (at_o law can i);
          side = λ b. proxy_side-agree g h (agree law can) i;
          inner = λ b. ap (λ p. side_node h (inner_link p) B) ((agree law can).inner i) ∙
              side_node-agree g h (agree law can) (inner_link (g.bypass i).inner) B;
          left = left_same (Central i);
          marked = λ s l b n. sym (test_at i s (λ y. y.marked) refl l b (is_new law can (Central i) s) refl);
          holds = λ s l b n. sym (test_at i s (λ y. y.holds) refl l b (is_new law can (Central i) s) refl);
        })
        ((words_of law).each i);
    source = sourced-by w v (had-one w v k r x (router_j law can) (λ m. absurd (x_free m)))
        (λ q t d i at p l. ap (λ (c : Word). c.source) (word_same i)) (words_of law).source;
  }
    where
      x_free : x.holds ≡ true → ⊥
      x_free m = cc

      was_early : (j : ℕ) → (h.bypass j).stage ≤ 2 → ((nat_eq j o ≡ true) × (j ≡ o)) ⊎ ((nat_eq j o ≡ false) × (j ≢ o)) →
          (g.bypass j).stage ≤ 2
      was_early j l (inl c) = absurd (omega (arith, rw c.0 at l))
      was_early j l (inr c) = rw c.0 at l

      known_at : (i : ℕ) (s : Side) (test : Router → Bool) (q : Option Key) → side_router g (Central i) s ≡ q →
          is_linked (g.owner i) ≡ true → is_begun (g.bypass i) ≡ false → key_passes w q test ≡ key_passes v q test
      known_at i s test None m l b' = grind (arith, standing_rules)
      known_at i s test (Some q) m l b' = go (same_key_tells q k)
        where
          go : ((same_key q k ≡ true) × (q ≡ k)) ⊎ ((same_key q k ≡ false) × (q ≢ k)) →
              key_passes w (Some q) test ≡ key_passes v (Some q) test
          go (inl c) = absurd (live_apart i s l b' (m ∙ ap Some c.1))
          go (inr c) = grind (arith, standing_rules, router_j law can q, c.0)

      test_at : (i : ℕ) (s : Side) (test : Router → Bool) → test x ≡ false → is_linked (g.owner i) ≡ true → is_begun (g.bypass i) ≡ false →
          (t : Bool) → is_new law can (Central i) s ≡ t →
          key_passes w (side_router g (Central i) s) test ≡ key_passes v (side_router h (Central i) s) test
      test_at i s test off l b' true t = let new : (Central i ≡ Central fresh) × (s ≡ side) = new_at law can (Central i) s t in
          let before' : side_router g (Central i) s ≡ None = rw (new.0, new.1) (fresh_awaited law can) in
          ap (λ q. key_passes w q test) before' ∙ key_passes-none w test ∙ sym
          (ap (λ q. key_passes v q test) (router_of law can (Central i) s ∙ ap (λ c. cond c (Some k) (side_router g (Central i) s)) t) ∙
          at_x
          test ∙ off)
      test_at i s test off l b' false t = known_at i s test (side_router g (Central i) s) refl l b' ∙ sym
          (ap (λ q. key_passes v q test) (router_of law can (Central i) s ∙ ap (λ c. cond c (Some k) (side_router g (Central i) s)) t))

  -- the router across is no bypass's proxy
  not_proxy : (j : ℕ) → is_begun (g.bypass j) ≡ true → (g.bypass j).proxy ≡ k → ⊥
  not_proxy j b' m = grind (
    arith,
    (stages_of law j).proxy_begun r b' (ap (router_at w) m ∙ here law can),
    ((shape_of law) k r (here law can)).role,
    on law can,
  )

  -- nor the one across of another
  not_across : (j : ℕ) → is_begun (g.bypass j) ≡ true → (g.bypass j).stage ≤ 2 → nat_eq j o ≡ false →
      side_router g (Central j) (across_side g j) ≡ Some k → ⊥
  not_across j b' st ne m = let p : has_primary (Central j) (across_side g j) r ≡ true =
      sym (passed w k r (has_primary (Central j) (across_side g j)) (here law can)) ∙ rw m at ((stages_of law j).across_old b' st) in
      grind (arith, (only_old j (across_side g j) p).0, ne, nat_tests)

  -- nor the one that has accepted another: then the old link's other router would have two decaying links
  not_accepted : (j : ℕ) → 3 ≤ (g.bypass j).stage → (g.bypass j).stage ≤ 4 → side_router g (fresh_of g j) (across_side g j) ≡ Some k → ⊥
  not_accepted j lo hi m = not_both law can o (g.bypass j).inner (sym y_link ∙ at_inner.on_link)
    where
      two' : 2 ≤ (g.bypass j).stage
      two' = omega (arith, lo)

      p : has_primary (fresh_of g j) (across_side g j) r ≡ true
      p = sym (passed w k r (has_primary (fresh_of g j) (across_side g j)) (here law can)) ∙ rw m at ((stages_of law j).across_fresh lo hi)

      fresh_is : (g.bypass j).fresh ≡ o
      fresh_is = (only_old (g.bypass j).fresh (across_side g j) p).0

      side_j : proxy_side g j ≡ opposite side
      side_j = sym (opposite-twice (proxy_side g j)) ∙ ap opposite (only_old (g.bypass j).fresh (across_side g j) p).1

      inner_j : side_router g (inner_of g j) B ≡ Some (g.bypass o).proxy
      inner_j = sym ((bypasses_of law j).fresh_inner two') ∙ ap (λ i. side_router g (Central i) (proxy_side g j)) fresh_is ∙ ap
          (side_router g (Central o)) side_j ∙ y_known law can

      y_has : has_link y.outward.decaying (inner_of g j) B ≡ true
      y_has = sym (passed w (g.bypass o).proxy y (has_decaying (inner_of g j) B) (y_here law can)) ∙ rw inner_j at
          ((stages_of law j).inner_decaying two' hi)

      at_inner : HasEnd y.outward.decaying (inner_of g j) B
      at_inner = has_link-tells y.outward.decaying (inner_of g j) B y_has

      at_old : HasEnd y.outward.decaying (Central o) (opposite side)
      at_old = has_link-tells y.outward.decaying (Central o) (opposite side) (y_old law can)

      y_link : at_inner.end.link ≡ Central o
      y_link = ap (λ c. c.link) (same_Some at_inner.end at_old.end (sym at_inner.there ∙ at_old.there)) ∙ at_old.on_link

  no_decay : (link : LinkId) (s : Side) → has_decaying link s r ≡ true → ⊥
  no_decay link s p = grind (arith, p, still law can, has_link-none link s)

  accepted_is : (i : ℕ) (s : Side) → i ≡ fresh → s ≡ side → key_passes v (side_router h (Central i) s) (has_primary (Central i) s) ≡ true
  accepted_is i s m n = rw (m, n) (ap (λ q. key_passes v q (has_primary (Central fresh) side))
      (router_of law can (Central fresh) side ∙ ap (λ c. cond c (Some k) (side_router g (Central fresh) side)) (is_new-here law can)) ∙ at_x
      (has_primary (Central fresh) side) ∙ x_on_fresh)

  router_kept : (link : LinkId) (s : Side) (test : Router → Bool) → key_passes w (side_router g link s) test ≡ true →
      side_router h link s ≡ side_router g link s
  router_kept link s test p = go (side_router g link s) refl p
    where
      go : (q : Option Key) → side_router g link s ≡ q → key_passes w q test ≡ true → side_router h link s ≡ side_router g link s
      go None m p = absurd (grind (arith, p, standing_rules))
      go (Some q) m p = known_after law can link s q m ∙ sym m

  pub stages-accept : Stages v h
  stages-accept j = record {
    proxy_old = λ b' st. proxy_old_at j (sym ((agree law can).is_begun j) ∙ b') st;
    proxy_inner = λ b' st. proxy_inner_at j (sym ((agree law can).is_begun j) ∙ b') st;
    proxy_begun = λ t b' at. let c : WasLike w (g.bypass j).proxy t = was_proxy law can j t at in
        ap (λ u. is_some u && is_none (unwrap_or u no_edge).primary) c.inward ∙ (stages_of law j).proxy_begun c.router
        (sym ((agree law can).is_begun j) ∙ b') c.here_before;
    proxy_end = λ t b' at. let c : WasLike w (g.bypass j).proxy t = was_proxy law can j t at in
        c.alike.end ∙ (stages_of law j).proxy_end c.router (sym ((agree law can).is_begun j) ∙ b') c.here_before ∙ sym
        (ap (λ p. side_end h (inner_link p) A) ((agree law can).inner j) ∙ side_end-agree g h (agree law can) (inner_of g j) A);
    across_old = λ b' st. across_at j (sym ((agree law can).is_begun j) ∙ b') st (λ i s. has_primary (Central i) s)
        (λ b2 st2. (stages_of law j).across_old b2 st2);
    across_marked = λ b' st. across_at j (sym ((agree law can).is_begun j) ∙ b') st (λ i s y. y.marked)
        (λ b2 st2. (stages_of law j).across_marked b2 st2);
    across_free = λ b' st. across_at j (sym ((agree law can).is_begun j) ∙ b') st (λ i s y. not y.holds)
        (λ b2 st2. (stages_of law j).across_free b2 st2);
    across_fresh = λ lo hi. across_fresh_at j lo hi (at_o law can j);
    inner_primary = λ q st known'. inner_primary_at j q st known' (at_o law can j);
    inner_decaying = λ lo hi. inner_decaying_at j lo hi;
  }
    where
      proxy_old_at : (j : ℕ) → is_begun (g.bypass j) ≡ true → (h.bypass j).stage ≤ 3 →
          key_passes v (Some (h.bypass j).proxy) (has_decaying (Central j) (proxy_side h j)) ≡ true
      proxy_old_at j b' st = rw ((agree law can).proxy j, proxy_side-agree g h (agree law can) j)
          (keep (Some (g.bypass j).proxy) (has_decaying (Central j) (proxy_side g j))
          ((stages_of law j).proxy_old b' (grind (arith, st, at_o law can j, (is law can).stage)))
          (λ m t. absurd (not_proxy j b' (same_Some _ _ m))))

      proxy_inner_at : (j : ℕ) → is_begun (g.bypass j) ≡ true → (h.bypass j).stage ≤ 3 →
          key_passes v (Some (h.bypass j).proxy) (has_inward_decaying (inner_of h j) A) ≡ true
      proxy_inner_at j b' st =
          rw ((agree law can).proxy j, (agree law can).inner j) (keep (Some (g.bypass j).proxy) (has_inward_decaying (inner_of g j) A)
          ((stages_of law j).proxy_inner b' (grind (arith, st, at_o law can j, (is law can).stage)))
          (λ m t. absurd (not_proxy j b' (same_Some _ _ m))))

      across_at : (j : ℕ) → is_begun (g.bypass j) ≡ true → (h.bypass j).stage ≤ 2 → (test : ℕ → Side → Router → Bool) →
          (is_begun (g.bypass j) ≡ true → (g.bypass j).stage ≤ 2 →
          key_passes w (side_router g (Central j) (across_side g j)) (test j (across_side g j)) ≡ true) →
          key_passes v (side_router h (Central j) (across_side h j)) (test j (across_side h j)) ≡ true
      across_at j b' st test old = let ne : nat_eq j o ≡ false = grind (arith, st, at_o law can j) in let st' : (g.bypass j).stage ≤ 2 =
          rw ne at st in
          let same : side_router h (Central j) (across_side g j) ≡ side_router g (Central j) (across_side g j) =
          router_of law can (Central j) (across_side g j) ∙ ap (λ c. cond c (Some k) (side_router g (Central j) (across_side g j)))
          (not_new-old law can j (across_side g j) b') in
          rw (across_side-after law can j, same) (keep (side_router g (Central j) (across_side g j)) (test j (across_side g j)) (old b' st')
          (λ m t. absurd (not_across j b' st' ne m)))

      across_fresh_at : (j : ℕ) → 3 ≤ (h.bypass j).stage → (h.bypass j).stage ≤ 4 →
          ((nat_eq j o ≡ true) × (j ≡ o)) ⊎ ((nat_eq j o ≡ false) × (j ≢ o)) →
          key_passes v (side_router h (fresh_of h j) (across_side h j)) (has_primary (fresh_of h j) (across_side h j)) ≡ true
      across_fresh_at j lo hi (inl c) = accepted_is (h.bypass j).fresh (across_side h j)
          ((agree law can).fresh j ∙ ap (λ i. (g.bypass i).fresh) c.1 ∙ sym (is law can).on_word)
          (ap (across_side h) c.1 ∙ across_is_after law can)
      across_fresh_at j lo hi (inr c) = let lo' : 3 ≤ (g.bypass j).stage = rw c.0 at lo in let hi' : (g.bypass j).stage ≤ 4 =
          rw c.0 at hi in
          let old : key_passes w (side_router g (fresh_of g j) (across_side g j)) (has_primary (fresh_of g j) (across_side g j)) ≡ true =
          (stages_of law j).across_fresh lo' hi' in
          rw (
            (agree law can).fresh j,
            across_side-after law can j,
            router_kept (fresh_of g j) (across_side g j)
                (has_primary (fresh_of g j) (across_side g j)) old,
          )
          (keep (side_router g (fresh_of g j) (across_side g j)) (has_primary (fresh_of g j) (across_side g j)) old
          (λ m t. absurd (not_accepted j lo' hi' m)))

      inner_primary_at : (j : ℕ) (q : Key) → (h.bypass j).stage ≡ 1 → side_router h (inner_of h j) B ≡ Some q →
          ((nat_eq j o ≡ true) × (j ≡ o)) ⊎ ((nat_eq j o ≡ false) × (j ≢ o)) → key_passes v (Some q) (has_primary (inner_of h j) B) ≡ true
      inner_primary_at j q st known' (inl c) = absurd (grind (arith, st, c.0))
      inner_primary_at j q st known' (inr c) = let st' : (g.bypass j).stage ≡ 1 = rw c.0 at st in
          let known2 : side_router g (inner_of g j) B ≡ Some q = sym (side_router-inner-agree g h (agree law can) (g.bypass j).inner B) ∙ ap
          (λ p. side_router h (inner_link p) B) (sym ((agree law can).inner j)) ∙ known' in
          rw ((agree law can).inner j) (keep (Some q) (has_primary (inner_of g j) B) ((stages_of law j).inner_primary q st' known2)
          (λ m t. absurd (not_inner (g.bypass j).inner B t)))

      inner_decaying_at : (j : ℕ) → 2 ≤ (h.bypass j).stage → (h.bypass j).stage ≤ 4 →
          key_passes v (side_router h (inner_of h j) B) (has_decaying (inner_of h j) B) ≡ true
      inner_decaying_at j lo hi = rw ((agree law can).inner j, side_router-inner-agree g h (agree law can) (g.bypass j).inner B)
          (keep (side_router g (inner_of g j) B) (has_decaying (inner_of g j) B)
          ((stages_of law j).inner_decaying (two_of law can j lo) (grind (arith, hi, at_o law can j, (is law can).stage)))
          (λ m t. absurd (no_decay (inner_of g j) B t)))

  was_message : (a c i : ℕ) (m : Message) → (m ≡ sent → ⊥) → IsUnderWay v a c i m → IsUnderWay w a c (before a c i) m
  was_message a c i m new u =
      go (was_under_way w from k x e.other sent (messages.AcceptBypass o side fresh length) a c i m (on_node law can) (in_hand law can)
      u)
    where
      go : IsUnderWay w a c (before a c i) m ⊎ (m ≡ sent) → IsUnderWay w a c (before a c i) m
      go (inl t) = t
      go (inr t) = absurd (new t)

  expected_before : (t : ℕ → ℕ → Message → ℕ) → control_weight g t o ≡ t from k.node (messages.AcceptBypass o side fresh length)
  unfolding control_weight
  expected_before t = rw (is law can).stage (λ i. t (sym (is law can).sender i) (sym (is law can).receiver i)
      (messages.AcceptBypass o (sym (is law can).at_side i) (sym (is law can).on_word i) (sym (is law can).taken i)))

  expected_after : (t : ℕ → ℕ → Message → ℕ) → control_weight h t o ≡ t k.node e.other sent
  unfolding control_weight
  expected_after t = rw (stage_after law can)
      (λ i. t (beyond i) (proxy i) (messages.StopProxying (proxy_is_after law can i) o (accepted_after law can i) (taken i)))
    where
      beyond : side_node h (Central o) (across_side h o) ≡ k.node
      beyond = side_node-agree g h (agree law can) (Central o) (across_side h o) ∙
          ap (side_node g (Central o)) (across_side-after law can o) ∙ sym
          (is law can).receiver

      proxy : (h.bypass o).proxy.node ≡ e.other
      proxy = ap (λ q. q.node) ((agree law can).proxy o) ∙ sym (e_other law can)

      taken : (h.bypass o).taken_at ≡ length
      taken = taken_after law can o ∙ sym (is law can).taken

  about_came : (j : ℕ) (f : Message → ℕ) → nat_eq o j ≡ true → of_bypass g j f (messages.AcceptBypass o side fresh length) ≡ f
      (messages.AcceptBypass o side fresh length)
  unfolding of_bypass
  about_came j f e' = rw e' refl

  about_sent : (j : ℕ) (f : Message → ℕ) → nat_eq o j ≡ true → of_bypass g j f sent ≡ f sent
  unfolding of_bypass
  about_sent j f e' = rw e' refl

  about_none : (j : ℕ) (f f' : Message → ℕ) → nat_eq o j ≡ false →
      of_bypass g j f sent ≡ of_bypass g j f' (messages.AcceptBypass o side fresh length)
  unfolding of_bypass
  about_none j f f' e' = rw e' refl

  pub controls-accept : Controls v h
  controls-accept = record {
    control = λ j t. control_at j t (at_o law can j);
    will_stop = λ a c i link s n u. ap is_some (bypass_of-agree g h (agree law can) link) ∙
        (controls_of law).will_stop a c (before a c i) link s n
        (was_message a c i (messages.ProxyWillStop link s n) (λ m. grind (arith, m)) u);
    behind = λ a c i link s old target new u none. behind_at a c i link s old target new u none (is_new law can link s) refl;
    flush_central = λ a c i link s u. (controls_of law).flush_central a c (before a c i) link s
        (was_message a c i (messages.Flush link s) (λ m. grind (arith, m)) u);
    flush_recorded = λ a c i link s u. is_recorded-kept w v g h k r x (changed law can) (agree law can) link ∙
        (controls_of law).flush_recorded a c (before a c i)
        link s (was_message a c i (messages.Flush link s) (λ m. grind (arith, m)) u);
    flush_to = λ a c i link s u. (controls_of law).flush_to a c (before a c i) link s
        (was_message a c i (messages.Flush link s) (λ m. grind (arith, m)) u) ∙ sym (side_node-agree g h (agree law can) link s);
    flush_from = λ a c i link s u. (controls_of law).flush_from a c (before a c i) link s
        (was_message a c i (messages.Flush link s) (λ m. grind (arith, m)) u) ∙ sym (side_node-agree g h (agree law can) link (opposite s));
  }
    where
      behind_at : (a c i : ℕ) (link : LinkId) (s : Side) (old target new : ℕ) →
          IsUnderWay v a c i (messages.BypassPeer link s old target new) → side_router h link s ≡ None → (t : Bool) →
          is_new law can link s ≡ t →
          is_made_before v a c i link s ≡ true
      behind_at a c i link s old target new u none true t = absurd
          (none-some k (sym none ∙ router_of law can link s ∙ ap (λ b'. cond b' (Some k) (side_router g link s)) t))
      behind_at a c i link s old target new u none false t = let u' : IsUnderWay w a c (before a c i)
          (messages.BypassPeer link s old target new) = was_message a c i (messages.BypassPeer link s old target new)
          (λ m. grind (arith, m)) u in
          was_made_before w from k x e.other sent (messages.AcceptBypass o side fresh length) a c i link s (on_node law can) u'.receiver
          (in_hand law can)
          (makes_new law can link s ∙ t)
          ((controls_of law).behind a c (before a c i) link s old target new u'
          (sym (router_of law can link s ∙ ap (λ b'. cond b' (Some k) (side_router g link s)) t) ∙ none))

      control_at : (j : ℕ) (t : ℕ → ℕ → Message → ℕ) → ((nat_eq j o ≡ true) × (j ≡ o)) ⊎ ((nat_eq j o ≡ false) × (j ≢ o)) →
          under_way (λ a c. of_bypass h j (t a c)) v ≡ control_weight h t j
      control_at j t c = omega (arith, same, moved, (controls_of law).control j t, weighs c)
        where
          came : Message
          came = messages.AcceptBypass o side fresh length

          same : under_way (λ a c. of_bypass h j (t a c)) v ≡ under_way (λ a c. of_bypass g j (t a c)) v
          same = ap (λ f. under_way f v) (λ i a c m. about-agree g h (agree law can) j (t a c) m i)

          moved : under_way (λ a c. of_bypass g j (t a c)) v + of_bypass g j (t from k.node) came ≡ under_way (λ a c. of_bypass g j (t a c))
              w + of_bypass g j (t k.node e.other) sent
          moved = under_way-handed_on (λ a c. of_bypass g j (t a c)) w from k x e.other sent came (from_node law can) (on_node law can)
              (to_node law can) (in_hand law can)

          weighs : ((nat_eq j o ≡ true) × (j ≡ o)) ⊎ ((nat_eq j o ≡ false) × (j ≢ o)) →
              control_weight g t j + of_bypass g j (t k.node e.other) sent ≡ control_weight h t j + of_bypass g j (t from k.node) came
          weighs (inl m) = rw m.1 (omega (
            arith,
            expected_before t,
            expected_after t,
            about_came o (t from k.node) (nat_eq-itself o),
            about_sent o (t k.node e.other) (nat_eq-itself o),
          ))
          weighs (inr m) = omega (
            arith,
            expected-agree g h (agree law can) t j (same_bypass law can j m.0),
            about_none j (t k.node e.other) (t from k.node) (grind (arith, m.0, nat_tests)),
          )

  pub descriptors : (t : End) (f : Descriptor → ℕ) → under_way (λ a c m. total_list (of_end t f) (moves_of m)) v ≡ under_way
      (λ a c m. total_list (of_end t f) (moves_of m)) w
  unfolding moves_of
  descriptors t f = omega (
    arith,
    under_way-handed_on (λ a c m. total_list (of_end t f) (moves_of m)) w from k x e.other sent
        (messages.AcceptBypass o side fresh length) (from_node law can) (on_node law can) (to_node law can) (in_hand law can),
  )
