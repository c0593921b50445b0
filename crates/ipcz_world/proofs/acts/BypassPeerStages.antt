-- The router inward takes the fresh link: who stands where, the words, and where the terminals are.
use Rattle.ipcz_world.proofs.acts.BypassPeerAround.{left_same, left_recorded, fresh_left, r_pair, end_same, bypass_same, recorded_more, begun_apart, accepted_same}
use Rattle.ipcz_world.proofs.Vocabulary.{opposite_end, End, side_node, Side, A, B, LinkId, Central, LinkEnd, Message, has, opposite, same_side}
use Rattle.ipcz_world.proofs.Vocabulary.{empty_word, same_end, Terminals, is_terminal, Router, World, Key, same_key, word_at, router_at, Books}
use Rattle.ipcz_world.proofs.Vocabulary.{Records, is_nowhere, Fresh, Spare, Opening, Linked, is_begun, is_linked, is_recorded, inner_link}
use Rattle.ipcz_world.proofs.Vocabulary.{side_router, side_end, proxy_side, across_side, has_primary, has_decaying, has_inward_decaying, passes}
use Rattle.ipcz_world.proofs.Vocabulary.{key_passes, Words, Spares, Stands, Stages, inner_of, bypass_peer, RetiredEnds, Gones, is_left, is_retired}
use Rattle.ipcz_world.proofs.Vocabulary.{LiveLinks, spare_of, has_inward_primary, fresh_of, no_edge}
use Rattle.std.proofs.Common.{subst}
use Rattle.std.specs.Prelude.{◌||◌, nat_le}
use Rattle.ipcz_world.proofs.frames.OneChange.{passes-same}
use Rattle.ipcz_world.proofs.frames.Sealing.{retired_ends_of, gones_of}
use Rattle.ipcz_world.proofs.frames.GonesKept.{gones-hand}
use Rattle.ipcz_base.specs.Ends as ends
use Rattle.ipcz_world.proofs.frames.LeftSides.{not_left}
use Rattle.ipcz_world.proofs.frames.LiveLinks.{first_begun}
use Rattle.ipcz_world.proofs.frames.Sealing.{live_of}
use Rattle.ipcz_world.proofs.acts.BypassPeerAround.{r_pair, two, central_same, begun_apart, stage_at}
use Rattle.ipcz_world.proofs.facts.Tests.{nat_eq-itself}
use Rattle.std.proofs.Common.{true≢false}
use Rattle.ipcz_world.proofs.acts.BypassPeerAround.{node_same}
use Rattle.ipcz_world.proofs.frames.Sourcing.{sourced-by, had-one}
use Rattle.ipcz_word.specs.Word.{Word}
use Rattle.ipcz_world.proofs.frames.OfRecords.{none_stable, none_holder}
use Rattle.std.specs.Prelude.{◌≡◌, ◌≢◌, ◌⊎◌, ◌≤◌, ℕ, Bool, true, false, cond, ◌&&◌, nat_eq, is_some, is_none, not, Option, Some, None}
use Rattle.std.specs.Prelude.{unwrap_or, refl}
use Rattle.std.proofs.Common.{arith, ap, ◌∙◌, sym, inl, inr}
use Rattle.std.proofs.lemmas.Bool.Decides.{nat_tests}
use Rattle.std.proofs.lemmas.Option.{none-some, same_Some}
use Rattle.ipcz_base.specs.declared.message.Message.TheVariants as messages
use Rattle.ipcz_world.proofs.frames.Frames.{same_key_tells}
use Rattle.ipcz_world.proofs.frames.StandingRules.{key_passes-none, standing_rules}
use Rattle.ipcz_world.proofs.facts.RecordsAfter.{taken_records}
use Rattle.ipcz_world.proofs.frames.Handing.{handed_on, word-handed_on}
use Rattle.ipcz_world.proofs.facts.Lengths.{side_is, has_link-tells, has_link-none, HasEnd, passed}
use Rattle.ipcz_world.proofs.frames.Sealing.{spares_of, Sealed, Closed, stands_of, words_of, shape_of, stages_of, bypasses_of}
use Rattle.ipcz_world.proofs.acts.BypassPeerAround.{CanPeer, here, is, itself, known, z_inner, z_end, on, by_o, r_side, central_not_inner}
use Rattle.ipcz_world.proofs.acts.BypassPeerAround.{still, fresh_owner, not_linked, changed, at_o, at_fresh, stage_at, is_begun_same}
use Rattle.ipcz_world.proofs.acts.BypassPeerAround.{proxy_same, inner_same, fresh_same, proxy_side_same, across_side_same, central_same}
use Rattle.ipcz_world.proofs.acts.BypassPeerAround.{owner_same, two, begun_apart, fresh_apart, apart, router_same, end_same, recorded_back}
use Rattle.ipcz_world.proofs.acts.BypassPeerAround.{linked_back, new_end, x_known, beyond_none, x_on_fresh, router_j, at_k, was_router}
use Rattle.ipcz_world.proofs.acts.BypassPeerLinks.{inner_is}
use Rattle.ipcz_world.proofs.frames.Unmoved.{WasLike}
use Rattle.ipcz_world.proofs.frames.EndsKept.{terminal-kept}

module _ {w : World} {b : Books} {g : Records} {from : ℕ} {k : Key} {r : Router} {o : ℕ} {link : LinkId} {side : Side}
    {target fresh : ℕ} (law : Sealed w b g) (can : Closed (CanPeer w from k r o link side target fresh)) where
  abbrev e : LinkEnd
  e = (z_end law can).end

  -- what the hand makes of the router, the world and the records
  abbrev x : Router
  x = bypass_peer r target fresh

  abbrev sent : Message
  sent = messages.AcceptBypass o (opposite r.end.side) fresh r.out_queue.current

  abbrev v : World
  v = handed_on w from k x target sent

  abbrev h : Records
  h = taken_records g k r o fresh target

  -- who passes a test passes it still, if the changed router does
  keep : (q : Option Key) (test : Router → Bool) → key_passes w q test ≡ true → (q ≡ Some k → test r ≡ true → test x ≡ true) →
      key_passes v q test ≡ true
  unfolding key_passes passes
  keep None test p more = absurd (grind (arith, p))
  keep (Some q) test p more = go (same_key_tells q k)
    where
      go : ((same_key q k ≡ true) × (q ≡ k)) ⊎ ((same_key q k ≡ false) × (q ≢ k)) → key_passes v (Some q) test ≡ true
      go (inl m) = let a : test r ≡ true = sym (passed w k r test (here law can)) ∙ rw m.1 at p in
          passed v q x test (router_j law can q ∙ ap (λ c. cond c (Some x) (router_at w q)) m.0) ∙ more (ap Some m.1) a
      go (inr m) = ap (λ c. passes c test) (router_j law can q ∙ ap (λ c. cond c (Some x) (router_at w q)) m.0) ∙ p

  -- the router inward has no primary link but the inner one
  only_inner : (l : LinkId) (s : Side) → has_primary l s r ≡ true → (l ≡ inner_of g o) × (s ≡ B)
  only_inner l s p = let at : HasEnd r.outward.primary l s = has_link-tells r.outward.primary l s p in let same : at.end ≡ e =
      same_Some at.end e (sym at.there ∙ on law can) in
      (sym at.on_link ∙ ap (λ c. c.link) same ∙ (z_end law can).on_link, sym at.at_side ∙ ap (λ c. c.side) same ∙ (z_end law can).at_side)

  not_central : (i : ℕ) (s : Side) → has_primary (Central i) s r ≡ true → ⊥
  not_central i s p = central_not_inner law can i (g.bypass o).inner (only_inner (Central i) s p).0

  no_decay : (l : LinkId) (s : Side) → has_decaying l s r ≡ true → ⊥
  no_decay l s p = grind (arith, p, still law can, has_link-none l s)

  abbrev New : ℕ → Type 0
  New i = ((nat_eq i fresh ≡ true) × (i ≡ fresh)) ⊎ ((nat_eq i fresh ≡ false) × (i ≢ fresh))

  pub stands-peer : Stands v h
  stands-peer = record {
    central = λ i s q l n nl m. central_at i s q l (sym (is_begun_same law can i) ∙ n) (sym (left_same law can (Central i) s) ∙ nl) m
        (at_fresh law can i);
    awaited = λ i s l n. awaited_at i s l n (at_fresh law can i);
    awaited_stage = λ i s j l n m. awaited_stage_at i s j l n m (at_fresh law can i);
    awaited_side = λ i s j l n m. awaited_side_at i s j l n m (at_fresh law can i);
    proxy = λ p rec by nl. keep (side_router h (inner_link p) A) (has_inward_primary (inner_link p) A)
        (ap (λ q. key_passes w q (has_inward_primary (inner_link p) A)) (router_same law can (inner_link p) A refl) ∙
        (stands_of law).proxy p
        (back p rec) by (sym (left_same law can (inner_link p) A) ∙ nl)) (λ m t. t);
    inner = λ p q rec by nl m. keep (Some q) (has_primary (inner_link p) B)
        ((stands_of law).inner p q (back p rec) by (sym (left_same law can (inner_link p) B) ∙ nl) (sym (router_same law can (inner_link p) B refl) ∙ m))
        (λ n t. absurd (none-some o (sym by ∙ ap (λ i. (g.peripheral i).by)
        (inner_is law can p (g.bypass o).inner (only_inner (inner_link p) B t).0) ∙ by_o law can)));
    by_begun = λ p j n. is_begun_same law can j ∙ (stands_of law).by_begun p j n;
    by_inner = λ p j n. inner_same law can j ∙ (stands_of law).by_inner p j n;
    left_recorded = λ l s n. recorded_more law can l ((stands_of law).left_recorded l s (was_left l s n));
    left_known = λ l s n. ap is_some (router_same law can l s (left_recorded law can l s (was_left l s n))) ∙
        (stands_of law).left_known l s (was_left l s n);
    left_gone = λ l s n. ap (λ q. key_passes v q (λ y. true)) (router_same law can l s (left_recorded law can l s (was_left l s n))) ∙
        passes-same (changed law can).one (λ y. true) refl (side_router g l s) ∙ (stands_of law).left_gone l s (was_left l s n);
    left_live = λ l s n. bypass_same law can l ∙ (stands_of law).left_live l s (was_left l s n);
  }
    where
      back : (p : Key) → is_recorded v h (inner_link p) ≡ true → is_recorded w g (inner_link p) ≡ true
      back p rec = go (recorded_back law can (inner_link p) rec)
        where
          go : (is_recorded w g (inner_link p) ≡ true) ⊎ (inner_link p ≡ Central fresh) → is_recorded w g (inner_link p) ≡ true
          go (inl t) = t
          go (inr t) = absurd (central_not_inner law can fresh p (sym t))

      was_left : (l : LinkId) (s : Side) → is_left h l s ≡ true → is_left g l s ≡ true
      was_left l s n = sym (left_same law can l s) ∙ n

      central_at : (i : ℕ) (s : Side) (q : Key) → is_linked (h.owner i) ≡ true → is_begun (g.bypass i) ≡ false →
          is_left g (Central i) s ≡ false → side_router h (Central i) s ≡ Some q → New i → key_passes v (Some q) (has_primary (Central i) s) ≡ true
      central_at i s q l n nl m (inl t) = new_at s q (ap (λ c. side_router h (Central c) s) (sym t.1) ∙ m) (side_is s r.end.side)
        where
          new_at : (s : Side) (q : Key) → side_router h (Central fresh) s ≡ Some q →
              ((same_side s r.end.side ≡ true) × (s ≡ r.end.side)) ⊎ ((same_side s r.end.side ≡ false) × (s ≡ opposite r.end.side)) →
              key_passes v (Some q) (has_primary (Central i) s) ≡ true
          new_at s q m (inl a) = let same : k ≡ q = same_Some k q (sym (ap (side_router h (Central fresh)) a.1 ∙ x_known law can) ∙ m) in
              rw (t.1, a.1, ← same) (passed v k x (has_primary (Central fresh) r.end.side) (at_k law can) ∙ x_on_fresh law can)
          new_at s q m (inr a) = absurd (none-some q (sym (ap (side_router h (Central fresh)) a.1 ∙ beyond_none law can) ∙ m))
      central_at i s q l n nl m (inr t) = keep (Some q) (has_primary (Central i) s)
          ((stands_of law).central i s q (linked_back law can i l t.0) n nl (sym (router_same law can (Central i) s t.0) ∙ m))
          (λ c p. absurd (not_central i s p))

      router_before : (i : ℕ) (s : Side) → nat_eq i fresh ≡ false → (h.central i).router s ≡ None → (g.central i).router s ≡ None
      router_before i s t n = ap (λ c. c.router s) (sym (central_same law can i t)) ∙ n

      born_before : (i j : ℕ) → nat_eq i fresh ≡ false → (h.central i).born ≡ Some j → (g.central i).born ≡ Some j
      born_before i j t n = ap (λ c. c.born) (sym (central_same law can i t)) ∙ n

      awaited_at : (i : ℕ) (s : Side) → is_linked (h.owner i) ≡ true → (h.central i).router s ≡ None → New i →
          is_some (h.central i).born ≡ true
      awaited_at i s l n (inl t) = rw t.0 refl
      awaited_at i s l n (inr t) = ap (λ c. is_some c.born) (central_same law can i t.0) ∙
          (stands_of law).awaited i s (linked_back law can i l t.0)
          (router_before i s t.0 n)

      awaited_stage_at : (i : ℕ) (s : Side) (j : ℕ) → is_linked (h.owner i) ≡ true → (h.central i).router s ≡ None →
          (h.central i).born ≡ Some j → New i → (h.bypass j).stage ≡ 2
      awaited_stage_at i s j l n m (inl t) = let same : o ≡ j = same_Some o j (rw t.0 at m) in
          grind (arith, stage_at law can j, same, itself law can o)
      awaited_stage_at i s j l n m (inr t) = grind (
        arith,
        stage_at law can j,
        (stands_of law).awaited_stage i s j (linked_back law can i l t.0) (router_before i s t.0 n) (born_before i j t.0 m),
      )

      awaited_side_at : (i : ℕ) (s : Side) (j : ℕ) → is_linked (h.owner i) ≡ true → (h.central i).router s ≡ None →
          (h.central i).born ≡ Some j → New i → s ≡ across_side h j
      awaited_side_at i s j l n m (inl t) = let same : o ≡ j = same_Some o j (rw t.0 at m) in
          let n' : cond (same_side s r.end.side) (Some k.serial) None ≡ None = rw t.0 at n in
          other_side s n' (side_is s r.end.side) ∙ sym (across_side_same law can j ∙ ap (across_side g) (sym same) ∙
          ap opposite (sym (r_side law can)))
        where
          other_side : (s : Side) → cond (same_side s r.end.side) (Some k.serial) None ≡ None →
              ((same_side s r.end.side ≡ true) × (s ≡ r.end.side)) ⊎ ((same_side s r.end.side ≡ false) × (s ≡ opposite r.end.side)) →
              s ≡ opposite r.end.side
          other_side s n (inl a) = absurd (none-some k.serial (sym (rw a.0 at n)))
          other_side s n (inr a) = a.1
      awaited_side_at i s j l n m (inr t) = (stands_of law).awaited_side i s j (linked_back law can i l t.0) (router_before i s t.0 n)
          (born_before i j t.0 m) ∙ sym (across_side_same law can j)

  -- no end of the pair has retired, since its bypass is under way
  unretired : (s : Side) → is_retired b (ends.end_at r.end.pair s) ≡ false
  unretired s = ap (λ n. is_retired b (ends.end_at n s)) (r_pair law can) ∙
      (retired_ends_of law).no_bypass o s (omega (arith, (is law can).stage)) (omega (arith, (is law can).stage))

  pub retired-peer : RetiredEnds b h
  unfolding is_linked
  retired-peer = record {
    retired = (retired_ends_of law).retired;
    peer_closed = (retired_ends_of law).peer_closed;
    peer_stays = (retired_ends_of law).peer_stays;
    all_read = (retired_ends_of law).all_read;
    gone_read = (retired_ends_of law).gone_read;
    no_bypass = λ j s l m. let n : is_begun (g.bypass j) ≡ true = sym (is_begun_same law can j) ∙ first_begun' (h.bypass j).stage l in
        ap (λ c. is_retired b (ends.end_at c.pair s)) (central_same law can j (begun_apart law can j n)) ∙ bypassed j s l m (at_o law can j);
    left = λ t i a l n p. live t i a l n p (at_fresh law can i);
    left_of = λ l s n. let m : is_left g l s ≡ true = sym (left_same law can l s) ∙ n in
        ap (λ d. is_retired b d || is_retired b (opposite_end d)) (end_same law can l s (left_recorded law can l s m)) ∙
        (retired_ends_of law).left_of l s m;
    accepted = λ j l. let n : is_begun (g.bypass j) ≡ true = sym (is_begun_same law can j) ∙ first_begun' (h.bypass j).stage (omega (arith, l)) in
        rw (central_same law can j (begun_apart law can j n), accepted_same law can j, across_side_same law can j)
        ((retired_ends_of law).accepted j (was_late j l));
  }
    where
      was_late : (j : ℕ) → 3 ≤ (h.bypass j).stage → 3 ≤ (g.bypass j).stage
      was_late j l = grind (arith, stage_at law can j, at_o law can j, l)

      first_begun' : (n : ℕ) → 1 ≤ n → nat_le 1 n ≡ true
      first_begun' n l = grind (arith, l, nat_tests)

      bypassed : (j : ℕ) (s : Side) → 1 ≤ (h.bypass j).stage → (h.bypass j).stage ≤ 4 →
          ((nat_eq j o ≡ true) × (j ≡ o)) ⊎ ((nat_eq j o ≡ false) × (j ≢ o)) → is_retired b (ends.end_at (g.central j).pair s) ≡ false
      bypassed j s l m (inl c) = (retired_ends_of law).no_bypass j s
          (subst (λ n. 1 ≤ (g.bypass n).stage) (sym c.1) (omega (arith, (is law can).stage)))
          (subst (λ n. (g.bypass n).stage ≤ 4) (sym c.1) (omega (arith, (is law can).stage)))
      bypassed j s l m (inr c) = (retired_ends_of law).no_bypass j s (rw (two law can j c.0) at l) (rw (two law can j c.0) at m)

      fresh_pair : (h.central fresh).pair ≡ r.end.pair
      fresh_pair = rw (nat_eq-itself fresh) refl

      live : (t : End) (i : ℕ) → is_retired b t ≡ true → is_linked (h.owner i) ≡ true → is_begun (h.bypass i) ≡ false →
          (h.central i).pair ≡ t.pair → New i → is_left h (Central i) t.side ≡ true
      live t i a l n p (inl c) = let q : t.pair ≡ r.end.pair = sym p ∙ ap (λ m. (h.central m).pair) c.1 ∙ fresh_pair in
          absurd (true≢false (sym a ∙ ap (λ m. is_retired b (ends.end_at m t.side)) q ∙ unretired t.side))
      live t i a l n p (inr c) = left_same law can (Central i) t.side ∙ (retired_ends_of law).left t i a (linked_back law can i l c.0)
          (sym (is_begun_same law can i) ∙ n) (ap (λ z. z.pair) (sym (central_same law can i c.0)) ∙ p)

  pub gones-peer : Gones v b h
  gones-peer = gones-hand w v b g h k r x (router_j law can) (here law can)
      (record { end = refl; current = refl; out = refl; inner = refl; terminal = refl; sent = refl; dropped = refl; closed = refl }) unretired
      (λ l s n. sym (left_same law can l s) ∙ n) mine (gones_of law)
    where
      mine : (d : LinkEnd) → x.outward.primary ≡ Some d → is_left h d.link (opposite d.side) ≡ false
      mine d p = let f = same_Some _ d p in ap (λ (t : LinkEnd). is_left h t.link (opposite t.side)) (sym f) ∙
          left_same law can (Central fresh) (opposite r.end.side) ∙ fresh_left law can (opposite r.end.side)

  -- the fresh link is the pair's live one from now on
  pub live-peer : LiveLinks h
  unfolding is_linked
  live-peer = record {
    one_live = λ i j a c e n m. one i j a c e n m (at_fresh law can i) (at_fresh law can j);
    none_live = λ q i s a e. none q i s a e (at_o law can q) (at_fresh law can i);
    one_begun = λ q j s t e. begun_one q j s t e (at_o law can q) (at_o law can j);
  }
    where
      At : ℕ → ℕ → Type 0
      At i j = ((nat_eq i j ≡ true) × (i ≡ j)) ⊎ ((nat_eq i j ≡ false) × (i ≢ j))

      stage_o : (h.bypass o).stage ≡ 2
      stage_o = stage_at law can o ∙ ap (λ t. cond t 2 (g.bypass o).stage) (nat_eq-itself o)

      -- the fresh link is of the old one's pair, and other links are of the pairs that they were of
      fresh_pair : (h.central fresh).pair ≡ (g.central o).pair
      fresh_pair = rw (nat_eq-itself fresh) (r_pair law can)

      old_pair : (i : ℕ) → nat_eq i fresh ≡ false → (h.central i).pair ≡ (g.central i).pair
      old_pair i n = ap (λ c. c.pair) (central_same law can i n)

      was_stage : (q : ℕ) → At q o → (h.bypass q).stage ≡ 1 → (g.bypass q).stage ≡ 1
      was_stage q (inl n) s = absurd (omega (arith, ap (λ j. (h.bypass j).stage) n.1, stage_o, s))
      was_stage q (inr n) s = sym (two law can q n.0) ∙ s

      begun_word : (q : ℕ) → (g.bypass q).stage ≡ 1 → nat_eq q fresh ≡ false
      begun_word q s = begun_apart law can q (first_begun (g.bypass q).stage s)

      not_live : (j : ℕ) → is_linked (g.owner j) ≡ true → (g.central j).pair ≡ (g.central o).pair → is_begun (h.bypass j) ≡ false → ⊥
      not_live j c e m = true≢false (sym (is_begun_same law can j ∙ (live_of law).none_live o j (is law can).stage c e) ∙ m)

      one : (i j : ℕ) → is_linked (h.owner i) ≡ true → is_linked (h.owner j) ≡ true → (h.central i).pair ≡ (h.central j).pair →
          is_begun (h.bypass i) ≡ false → is_begun (h.bypass j) ≡ false → At i fresh → At j fresh → i ≡ j
      one i j a c e n m (inl x) (inl y) = x.1 ∙ sym y.1
      one i j a c e n m (inl x) (inr y) = absurd (not_live j (linked_back law can j c y.0)
          (sym (old_pair j y.0) ∙ sym e ∙ ap (λ t. (h.central t).pair) x.1 ∙ fresh_pair) m)
      one i j a c e n m (inr x) (inl y) = absurd (not_live i (linked_back law can i a x.0)
          (sym (old_pair i x.0) ∙ e ∙ ap (λ t. (h.central t).pair) y.1 ∙ fresh_pair) n)
      one i j a c e n m (inr x) (inr y) = (live_of law).one_live i j (linked_back law can i a x.0) (linked_back law can j c y.0)
          (sym (old_pair i x.0) ∙ e ∙ old_pair j y.0) (sym (is_begun_same law can i) ∙ n) (sym (is_begun_same law can j) ∙ m)

      none : (q i : ℕ) → (h.bypass q).stage ≡ 1 → is_linked (h.owner i) ≡ true → (h.central i).pair ≡ (h.central q).pair → At q o →
          At i fresh → is_begun (h.bypass i) ≡ true
      none q i s a e n (inl y) = let t : (g.bypass q).stage ≡ 1 = was_stage q n s in
          let same : q ≡ o = (live_of law).one_begun q o t (is law can).stage
          (sym (old_pair q (begun_word q t)) ∙ sym e ∙ ap (λ z. (h.central z).pair) y.1 ∙ fresh_pair) in
          absurd (omega (arith, ap (λ j. (h.bypass j).stage) same, stage_o, s))
      none q i s a e n (inr y) = let t : (g.bypass q).stage ≡ 1 = was_stage q n s in
          is_begun_same law can i ∙ (live_of law).none_live q i t (linked_back law can i a y.0)
          (sym (old_pair i y.0) ∙ e ∙ old_pair q (begun_word q t))

      begun_one : (q j : ℕ) → (h.bypass q).stage ≡ 1 → (h.bypass j).stage ≡ 1 → (h.central q).pair ≡ (h.central j).pair → At q o → At j o →
          q ≡ j
      begun_one q j s t e n m = let a : (g.bypass q).stage ≡ 1 = was_stage q n s in let c : (g.bypass j).stage ≡ 1 = was_stage j m t in
          (live_of law).one_begun q j a c (sym (old_pair q (begun_word q a)) ∙ e ∙ old_pair j (begun_word j c))

  word_same : (i : ℕ) → word_at v i ≡ word_at w i
  word_same = word-handed_on w from k x target sent

  at_x : (test : Router → Bool) → key_passes v (Some k) test ≡ test x
  at_x test = passed v k x test (at_k law can)

  pub words-peer : Words v h
  unfolding is_linked
  words-peer = record {
    each = λ i. record {
      unused = λ l. word_same i ∙ unused_at i l (at_fresh law can i);
      begun_stable = λ s n. ap (λ c. has c.stable s) (word_same i) ∙
          ((words_of law).each i).begun_stable s (sym (is_begun_same law can i) ∙ n);
      begun_holder = λ s n. ap (λ c. has c.holder s) (word_same i) ∙
          ((words_of law).each i).begun_holder s (sym (is_begun_same law can i) ∙ n) ∙
          ap (same_side s) (sym (proxy_side_same law can i));
      stable = λ s l n nl. ap (λ c. has c.stable s) (word_same i) ∙ stable_at i s l (sym (is_begun_same law can i) ∙ n)
          (sym (left_same law can (Central i) s) ∙ nl) (at_fresh law can i);
      holder = λ s l n nl. ap (λ c. has c.holder s) (word_same i) ∙ holder_at i s l (sym (is_begun_same law can i) ∙ n)
          (sym (left_same law can (Central i) s) ∙ nl) (at_fresh law can i);
      left_held = λ s n. rw (left_same law can (Central i) A, left_same law can (Central i) B, word_same i)
          (((words_of law).each i).left_held s (sym (left_same law can (Central i) s) ∙ n));
      held_stable = λ s t a. ap (λ c. has c.stable t) (word_same i) ∙ ((words_of law).each i).held_stable s t
          (ap (λ c. has c.holder s) (sym (word_same i)) ∙ a);
      one_holder = λ s t a d. ((words_of law).each i).one_holder s t (ap (λ c. has c.holder s) (sym (word_same i)) ∙ a)
          (ap (λ c. has c.holder t) (sym (word_same i)) ∙ d);
      begun_source = λ n l. ap (λ (c : Word). c.source) (word_same i) ∙
          ((words_of law).each i).begun_source (sym (is_begun_same law can i) ∙ n) (was_early i l) ∙
          ap Some (sym (node_same law can (inner_link (g.bypass i).inner) B refl ∙ ap (λ p. side_node g (inner_link p) B) refl) ∙
          ap (λ p. side_node h (inner_link p) B) (sym (inner_same law can i)));
    };
    source = sourced-by w v (had-one w v k r x (router_j law can) (λ m. absurd (x_free m)))
        (λ q t d i at p l. ap (λ (c : Word). c.source) (word_same i)) (words_of law).source;
  }
    where
      x_free : x.holds ≡ true → ⊥
      x_free m = cc

      was_early : (j : ℕ) → (h.bypass j).stage ≤ 2 → (g.bypass j).stage ≤ 2
      was_early j l = grind (arith, stage_at law can j, at_o law can j, (is law can).stage, l)

      unused_at : (i : ℕ) → is_linked (h.owner i) ≡ false → New i → word_at w i ≡ empty_word
      unused_at i l (inl t) = ((words_of law).each i).unused (ap (λ j. is_linked (g.owner j)) t.1 ∙ not_linked law can)
      unused_at i l (inr t) = ((words_of law).each i).unused (ap is_linked (sym (owner_same law can i t.0)) ∙ l)

      new_test : (s : Side) (test : Router → Bool) → test x ≡ false →
          ((same_side s r.end.side ≡ true) × (s ≡ r.end.side)) ⊎ ((same_side s r.end.side ≡ false) × (s ≡ opposite r.end.side)) →
          key_passes v (side_router h (Central fresh) s) test ≡ false
      new_test s test off (inl a) = ap (λ q. key_passes v q test) (ap (side_router h (Central fresh)) a.1 ∙ x_known law can) ∙ at_x test ∙
          off
      new_test s test off (inr a) = ap (λ q. key_passes v q test) (ap (side_router h (Central fresh)) a.1 ∙ beyond_none law can) ∙
          key_passes-none v
          test

      old_test : (i : ℕ) (s : Side) (test : Router → Bool) (q : Option Key) → side_router g (Central i) s ≡ q →
          is_linked (g.owner i) ≡ true → is_begun (g.bypass i) ≡ false → key_passes w q test ≡ key_passes v q test
      old_test i s test None m l n = grind (arith, standing_rules)
      old_test i s test (Some q) m l n = go (same_key_tells q k)
        where
          go : ((same_key q k ≡ true) × (q ≡ k)) ⊎ ((same_key q k ≡ false) × (q ≢ k)) →
              key_passes w (Some q) test ≡ key_passes v (Some q) test
          go (inl c) = absurd (not_central i s (sym (passed w k r (has_primary (Central i) s) (here law can)) ∙
              (stands_of law).central i s k l n
              (not_left w g (Central i) s k r (stands_of law) (m ∙ ap Some c.1) (here law can))
              (m ∙ ap Some c.1)))
          go (inr c) = grind (arith, standing_rules, router_j law can q, c.0)

      empty_at : word_at w fresh ≡ empty_word
      empty_at = ((words_of law).each fresh).unused (not_linked law can)

      stable_at : (i : ℕ) (s : Side) → is_linked (h.owner i) ≡ true → is_begun (g.bypass i) ≡ false → is_left g (Central i) s ≡ false → New i →
          has (word_at w i).stable s ≡ key_passes v (side_router h (Central i) s) (λ y. y.marked)
      stable_at i s l n nl (inl t) = ap (λ j. has (word_at w j).stable s) t.1 ∙ ap (λ c. has c.stable s) empty_at ∙ none_stable s ∙ sym
          (ap (λ j. key_passes v (side_router h (Central j) s) (λ y. y.marked)) t.1 ∙ new_test s (λ y. y.marked) refl
          (side_is s r.end.side))
      stable_at i s l n nl (inr t) = ((words_of law).each i).stable s (linked_back law can i l t.0) n nl ∙ old_test i s (λ y. y.marked)
          (side_router g (Central i) s) refl (linked_back law can i l t.0) n ∙ ap (λ q. key_passes v q (λ y. y.marked))
          (sym (router_same law can (Central i) s t.0))

      holder_at : (i : ℕ) (s : Side) → is_linked (h.owner i) ≡ true → is_begun (g.bypass i) ≡ false → is_left g (Central i) s ≡ false → New i →
          has (word_at w i).holder s ≡ key_passes v (side_router h (Central i) s) (λ y. y.holds)
      holder_at i s l n nl (inl t) = ap (λ j. has (word_at w j).holder s) t.1 ∙ ap (λ c. has c.holder s) empty_at ∙ none_holder s ∙ sym
          (ap (λ j. key_passes v (side_router h (Central j) s) (λ y. y.holds)) t.1 ∙ new_test s (λ y. y.holds) refl (side_is s r.end.side))
      holder_at i s l n nl (inr t) = ((words_of law).each i).holder s (linked_back law can i l t.0) n nl ∙ old_test i s (λ y. y.holds)
          (side_router g (Central i) s) refl (linked_back law can i l t.0) n ∙ ap (λ q. key_passes v q (λ y. y.holds))
          (sym (router_same law can (Central i) s t.0))

  pub spares-peer : Spares v h
  unfolding spare_of
  spares-peer = record {
    spare = λ q t i a m. let c : WasLike w q t = was_router law can q t a in let s : g.owner i ≡ Spare q =
        (spares_of law).spare q c.router i c.here_before (sym c.alike.spare ∙ m) in kept_spare i q s (at_fresh law can i);
    spare_back = λ q i m. spare_same q ∙ (spares_of law).spare_back q i (from_spare i q m (at_fresh law can i));
    opening = λ n i m. kept_opening i n ((spares_of law).opening n i (sym ((changed law can).opening n) ∙ m)) (at_fresh law can i);
    opening_back = λ n i m. (changed law can).opening n ∙ (spares_of law).opening_back n i (from_opening i n m (at_fresh law can i));
    fresh = λ j i m. fresh_stage j i (from_fresh i j m (at_fresh law can i)) (at_o law can j);
    fresh_back = λ j i m. fresh_same law can j ∙ (spares_of law).fresh_back j i (from_fresh i j m (at_fresh law can i)).0;
  }
    where
      spare_same : (q : Key) → spare_of (router_at v q) ≡ spare_of (router_at w q)
      spare_same q = grind (arith, router_j law can q, same_key_tells q k, here law can)

      kept_spare : (i : ℕ) (q : Key) → g.owner i ≡ Spare q → New i → h.owner i ≡ Spare q
      kept_spare i q m (inl t) = absurd (grind (arith, sym m ∙ ap g.owner t.1 ∙ fresh_owner law can))
      kept_spare i q m (inr t) = owner_same law can i t.0 ∙ m

      new_owner : (i : ℕ) → nat_eq i fresh ≡ true → h.owner i ≡ Linked
      new_owner i t = rw t refl

      from_spare : (i : ℕ) (q : Key) → h.owner i ≡ Spare q → New i → g.owner i ≡ Spare q
      from_spare i q m (inl t) = absurd (grind (arith, sym (new_owner i t.0) ∙ m))
      from_spare i q m (inr t) = sym (owner_same law can i t.0) ∙ m

      kept_opening : (i n : ℕ) → g.owner i ≡ Opening n → New i → h.owner i ≡ Opening n
      kept_opening i n m (inl t) = absurd (grind (arith, sym m ∙ ap g.owner t.1 ∙ fresh_owner law can))
      kept_opening i n m (inr t) = owner_same law can i t.0 ∙ m

      from_opening : (i n : ℕ) → h.owner i ≡ Opening n → New i → g.owner i ≡ Opening n
      from_opening i n m (inl t) = absurd (grind (arith, sym (new_owner i t.0) ∙ m))
      from_opening i n m (inr t) = sym (owner_same law can i t.0) ∙ m

      from_fresh : (i j : ℕ) → h.owner i ≡ Fresh j → New i → (g.owner i ≡ Fresh j) × (i ≢ fresh)
      from_fresh i j m (inl t) = absurd (grind (arith, sym (new_owner i t.0) ∙ m))
      from_fresh i j m (inr t) = (sym (owner_same law can i t.0) ∙ m, t.1)

      fresh_stage : (j i : ℕ) → (g.owner i ≡ Fresh j) × (i ≢ fresh) → ((nat_eq j o ≡ true) × (j ≡ o)) ⊎ ((nat_eq j o ≡ false) × (j ≢ o)) →
          (h.bypass j).stage ≡ 1
      fresh_stage j i m (inl t) = absurd (m.1 (sym ((spares_of law).fresh_back j i m.0) ∙ ap (λ c. (g.bypass c).fresh) t.1 ∙ sym
          (is law can).on_word))
      fresh_stage j i m (inr t) = two law can j t.0 ∙ (spares_of law).fresh j i m.0

  -- the router inward is no bypass's proxy
  not_proxy : (j : ℕ) → is_begun (g.bypass j) ≡ true → (g.bypass j).proxy ≡ k → ⊥
  not_proxy j n m = grind (
    arith,
    (stages_of law j).proxy_begun r n (ap (router_at w) m ∙ here law can),
    ((shape_of law) k r (here law can)).role,
    on law can,
  )

  not_across : (j : ℕ) → is_begun (g.bypass j) ≡ true → (g.bypass j).stage ≤ 2 → side_router g (Central j) (across_side g j) ≡ Some k → ⊥
  not_across j n l m =
      not_central j (across_side g j) (sym (passed w k r (has_primary (Central j) (across_side g j)) (here law can)) ∙ rw m at
      ((stages_of law j).across_old n l))

  pub stages-peer : Stages v h
  stages-peer j = record {
    proxy_old = λ n l. proxy_old_at j (sym (is_begun_same law can j) ∙ n) l;
    proxy_inner = λ n l. proxy_inner_at j (sym (is_begun_same law can j) ∙ n) l;
    proxy_begun = λ t n a. let c : WasLike w (g.bypass j).proxy t =
        was_router law can (g.bypass j).proxy t (ap (router_at v) (sym (proxy_same law can j)) ∙ a)
        in ap (λ u. is_some u && is_none (unwrap_or u no_edge).primary) c.inward ∙ (stages_of law j).proxy_begun c.router
        (sym (is_begun_same law can j) ∙ n) c.here_before;
    proxy_end = λ t n a. let c : WasLike w (g.bypass j).proxy t =
        was_router law can (g.bypass j).proxy t (ap (router_at v) (sym (proxy_same law can j)) ∙ a) in
        c.alike.end ∙ (stages_of law j).proxy_end c.router (sym (is_begun_same law can j) ∙ n) c.here_before ∙ sym
        (ap (λ p. side_end h (inner_link p) A) (inner_same law can j) ∙ end_same law can (inner_of g j) A refl);
    across_old = λ n l. across_at j (sym (is_begun_same law can j) ∙ n) l (λ i s. has_primary (Central i) s)
        (λ b2 st2. (stages_of law j).across_old b2 st2);
    across_marked = λ n l. across_at j (sym (is_begun_same law can j) ∙ n) l (λ i s y. y.marked)
        (λ b2 st2. (stages_of law j).across_marked b2 st2);
    across_free = λ n l. across_at j (sym (is_begun_same law can j) ∙ n) l (λ i s y. not y.holds)
        (λ b2 st2. (stages_of law j).across_free b2 st2);
    across_fresh = λ lo hi. across_fresh_at j lo hi (at_o law can j);
    inner_primary = λ q st m. inner_primary_at j q st m (at_o law can j);
    inner_decaying = λ lo hi. inner_decaying_at j lo hi (at_o law can j);
  }
    where
      proxy_old_at : (j : ℕ) → is_begun (g.bypass j) ≡ true → (h.bypass j).stage ≤ 3 →
          key_passes v (Some (h.bypass j).proxy) (has_decaying (Central j) (proxy_side h j)) ≡ true
      proxy_old_at j n l =
          rw (proxy_same law can j, proxy_side_same law can j) (keep (Some (g.bypass j).proxy) (has_decaying (Central j) (proxy_side g j))
          ((stages_of law j).proxy_old n (grind (arith, l, at_o law can j, (is law can).stage)))
          (λ m t. absurd (not_proxy j n (same_Some _ _ m))))

      proxy_inner_at : (j : ℕ) → is_begun (g.bypass j) ≡ true → (h.bypass j).stage ≤ 3 →
          key_passes v (Some (h.bypass j).proxy) (has_inward_decaying (inner_of h j) A) ≡ true
      proxy_inner_at j n l =
          rw (proxy_same law can j, inner_same law can j) (keep (Some (g.bypass j).proxy) (has_inward_decaying (inner_of g j) A)
          ((stages_of law j).proxy_inner n (grind (arith, l, at_o law can j, (is law can).stage)))
          (λ m t. absurd (not_proxy j n (same_Some _ _ m))))

      across_at : (j : ℕ) → is_begun (g.bypass j) ≡ true → (h.bypass j).stage ≤ 2 → (test : ℕ → Side → Router → Bool) →
          (is_begun (g.bypass j) ≡ true → (g.bypass j).stage ≤ 2 →
          key_passes w (side_router g (Central j) (across_side g j)) (test j (across_side g j)) ≡ true) →
          key_passes v (side_router h (Central j) (across_side h j)) (test j (across_side h j)) ≡ true
      across_at j n l test old = let l' : (g.bypass j).stage ≤ 2 = grind (arith, l, at_o law can j, (is law can).stage) in
          rw (across_side_same law can j, router_same law can (Central j) (across_side g j) (begun_apart law can j n))
          (keep (side_router g (Central j) (across_side g j)) (test j (across_side g j)) (old n l')
          (λ m t. absurd (not_across j n l' m)))

      across_fresh_at : (j : ℕ) → 3 ≤ (h.bypass j).stage → (h.bypass j).stage ≤ 4 →
          ((nat_eq j o ≡ true) × (j ≡ o)) ⊎ ((nat_eq j o ≡ false) × (j ≢ o)) →
          key_passes v (side_router h (fresh_of h j) (across_side h j)) (has_primary (fresh_of h j) (across_side h j)) ≡ true
      across_fresh_at j lo hi (inl c) = absurd (grind (arith, lo, c.0))
      across_fresh_at j lo hi (inr c) = let lo' : 3 ≤ (g.bypass j).stage = rw c.0 at lo in let hi' : (g.bypass j).stage ≤ 4 =
          rw c.0 at hi in
          rw (
            fresh_same law can j,
            across_side_same law can j,
            router_same law can (fresh_of g j) (across_side g j) (fresh_apart law can j (omega (arith, lo'))),
          )
          (keep (side_router g (fresh_of g j) (across_side g j)) (has_primary (fresh_of g j) (across_side g j))
          ((stages_of law j).across_fresh lo' hi') (λ m t. absurd (not_central (g.bypass j).fresh (across_side g j) t)))

      inner_primary_at : (j : ℕ) (q : Key) → (h.bypass j).stage ≡ 1 → side_router h (inner_of h j) B ≡ Some q →
          ((nat_eq j o ≡ true) × (j ≡ o)) ⊎ ((nat_eq j o ≡ false) × (j ≢ o)) → key_passes v (Some q) (has_primary (inner_of h j) B) ≡ true
      inner_primary_at j q st m (inl c) = absurd (grind (arith, st, c.0))
      inner_primary_at j q st m (inr c) = let st' : (g.bypass j).stage ≡ 1 = rw c.0 at st in let b' : is_begun (g.bypass j) ≡ true =
          grind (arith, st', nat_tests) in
          rw (inner_same law can j) (keep (Some q) (has_primary (inner_of g j) B)
          ((stages_of law j).inner_primary q st' (sym (router_same law can (inner_of g j) B refl) ∙ ap (λ p. side_router h (inner_link p) B)
          (sym (inner_same law can j)) ∙ m))
          (λ n t. absurd (c.1 (same_Some j o (sym ((bypasses_of law j).inner_by b') ∙ ap (λ p. (g.peripheral p).by)
          (inner_is law can (g.bypass j).inner (g.bypass o).inner (only_inner (inner_of g j) B t).0) ∙ by_o law can)))))

      inner_decaying_at : (j : ℕ) → 2 ≤ (h.bypass j).stage → (h.bypass j).stage ≤ 4 →
          ((nat_eq j o ≡ true) × (j ≡ o)) ⊎ ((nat_eq j o ≡ false) × (j ≢ o)) →
          key_passes v (side_router h (inner_of h j) B) (has_decaying (inner_of h j) B) ≡ true
      inner_decaying_at j lo hi (inl c) = let same : (h.bypass j).inner ≡ (g.bypass o).inner =
          inner_same law can j ∙ ap (λ i. (g.bypass i).inner) c.1 in
          rw same (ap (λ q. key_passes v q (has_decaying (inner_of g o) B)) (router_same law can (inner_of g o) B refl ∙ known law can) ∙
          at_x
          (has_decaying (inner_of g o) B) ∙ z_inner law can)
      inner_decaying_at j lo hi (inr c) = rw (inner_same law can j, router_same law can (inner_of g j) B refl)
          (keep (side_router g (inner_of g j) B) (has_decaying (inner_of g j) B)
          ((stages_of law j).inner_decaying (rw c.0 at lo) (rw c.0 at hi)) (λ m t. absurd (no_decay (inner_of g j) B t)))

  pub terminals-peer : Terminals w g → Terminals v h
  terminals-peer terms = record {
    each = λ q t a. let c : WasLike w q t = was_router law can q t a in
        terminal-kept {g = g} (λ e. refl) c.alike.end (λ m. sym c.alike.terminal ∙ m) (terms.each q c.router c.here_before);
    stands = λ d q m. keep (Some q) (λ y. is_terminal y && same_end y.end d) (terms.stands d q m) (λ n t. t);
    link_opened = λ l s rec. link_opened_at l s (recorded_back law can l rec);
    both = terms.both;
    unopened = λ d m. terms.unopened d (unlinked d.pair m (at_fresh law can d.pair));
    other_pair = λ d m n. other d m n (at_fresh law can d.pair);
  }
    where
      other : (d : End) → is_linked (h.owner d.pair) ≡ true → nat_eq (h.central d.pair).pair d.pair ≡ false → New d.pair →
          is_nowhere (g.terminal d) ≡ true
      other d m n (inl t) = terms.unopened d (ap (λ j. is_linked (g.owner j)) t.1 ∙ not_linked law can)
      other d m n (inr t) = terms.other_pair d (ap is_linked (sym (owner_same law can d.pair t.0)) ∙ m)
          (ap (λ c. nat_eq c.pair d.pair) (sym (central_same law can d.pair t.0)) ∙ n)

      unlinked : (i : ℕ) → is_linked (h.owner i) ≡ false → New i → is_linked (g.owner i) ≡ false
      unlinked i m (inl t) = ap (λ j. is_linked (g.owner j)) t.1 ∙ not_linked law can
      unlinked i m (inr t) = ap is_linked (sym (owner_same law can i t.0)) ∙ m

      link_opened_at : (l : LinkId) (s : Side) → (is_recorded w g l ≡ true) ⊎ (l ≡ Central fresh) →
          is_nowhere (g.terminal (side_end h l s)) ≡ false
      link_opened_at l s (inl rec) = ap (λ d. is_nowhere (g.terminal d)) (end_same law can l s (apart law can l rec)) ∙
          terms.link_opened l s rec
      link_opened_at l s (inr t) = ap (λ d. is_nowhere (g.terminal d)) (ap (λ c. side_end h c s) t ∙ new_end law can s) ∙ ends
          (side_is s r.end.side)
        where
          ends : ((same_side s r.end.side ≡ true) × (s ≡ r.end.side)) ⊎ ((same_side s r.end.side ≡ false) × (s ≡ opposite r.end.side)) →
              is_nowhere (g.terminal (record { pair = r.end.pair; side = s })) ≡ false
          ends (inl a) = rw a.1 ((terms.each k r (here law can)).opened)
          ends (inr a) = rw a.1 (terms.both r.end ∙ (terms.each k r (here law can)).opened)
