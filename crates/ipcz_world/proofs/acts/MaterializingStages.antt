-- A descriptor becomes a terminal: who stands where, the words, the bypasses, and where the terminals are.
use Rattle.ipcz_world.proofs.Vocabulary.{LinkId, A, B, Side, End, Central, Descriptor, opposite, same_link, same_end, opposite_end, Router}
use Rattle.ipcz_world.proofs.Vocabulary.{is_terminal, from_descriptor, World, Key, router_at, Books, Records, At, is_begun, inner_link, side_router}
use Rattle.ipcz_world.proofs.Vocabulary.{side_end, proxy_side, across_side, is_nowhere, is_recorded, key_passes, has_primary, has_decaying}
use Rattle.ipcz_world.proofs.Vocabulary.{has_inward_decaying, Stands, Words, Spares, BypassRecords, Stages, inner_of, moving_link, Terminals, is_left}
use Rattle.ipcz_world.proofs.Vocabulary.{spare_of, has_inward_primary, fresh_of}
use Rattle.ipcz_world.proofs.acts.MaterializingAround.{left_same, bypass_same, router_kept, recorded_same}
use Rattle.ipcz_world.proofs.frames.Sourcing.{sourced-by, had-itself}
use Rattle.ipcz_word.specs.Word.{Word}
use Rattle.std.specs.Prelude.{◌≡◌, ◌⊎◌, ◌≤◌, ℕ, Bool, true, false, not, ◌&&◌, Option, Some, None, is_some, refl}
use Rattle.std.proofs.Common.{arith, ap, subst, ◌∙◌, sym, inl, inr}
use Rattle.ipcz_world.proofs.frames.Frames.{same_key-itself}
use Rattle.ipcz_world.proofs.frames.RecordRules.{is_recorded-central}
use Rattle.ipcz_world.proofs.frames.StandingRules.{standing_rules}
use Rattle.ipcz_world.proofs.frames.Opened.{OpenInv}
use Rattle.ipcz_world.proofs.frames.Awaited.{moving_known}
use Rattle.ipcz_world.proofs.acts.SendingOut.{has_link-end}
use Rattle.ipcz_world.proofs.acts.ExtendingAround.{inner_one, is_nowhere-moving}
use Rattle.ipcz_world.proofs.frames.FreshPairs.{is_nowhere-at}
use Rattle.ipcz_world.proofs.acts.MaterializingAround.{made_key_records, IsMade, IsMaterial, and_false, no_spare, at_waits, at_one, unmade}
use Rattle.ipcz_world.proofs.acts.MaterializingAround.{waits, peripheral_same, node_same, end_same, by_same, side_same, recorded_same}
use Rattle.ipcz_world.proofs.acts.MaterializingAround.{router_new, router_same, side_new, stood, was_there, passes_kept, passes_same}
use Rattle.ipcz_world.proofs.facts.Lengths.{same_link-tells}
use Rattle.ipcz_world.proofs.facts.Tests.{same_some}
use Rattle.ipcz_world.proofs.facts.LinkTests.{same_end-itself, same_end-tells}
use Rattle.ipcz_world.proofs.frames.BypassesKept.{bypass-kept, same_bypass}
use Rattle.ipcz_world.proofs.frames.WordsKept.{word-kept}

module _ {w v : World} {b : Books} {g : Records} {a : ℕ} {q p : Key} {d : Descriptor} (law : OpenInv w b g) (is : IsMaterial w g a q p d)
    (t : IsMade w v q (from_descriptor d a)) where
  abbrev h : Records
  h = made_key_records g p q d.end

  abbrev y : Router
  y = from_descriptor d a

  central_kept : (i : ℕ) (s : Side) → side_router h (Central i) s ≡ side_router g (Central i) s
  central_kept i s = router_same law is t (Central i) s refl

  proxy_kept : (k : Key) → side_router h (inner_link k) A ≡ side_router g (inner_link k) A
  proxy_kept k = router_same law is t (inner_link k) A (grind (arith, and_false (same_link (inner_link k) (inner_link p))))

  -- the terminal has its link
  has_new : key_passes v (Some q) (has_primary (inner_link p) B) ≡ true
  has_new = grind (arith, standing_rules, t.router q, same_key-itself q, new_has)
    where
      new_has : has_primary (inner_link p) B y ≡ true
      new_has = ap (λ l. has_primary l B y) (sym is.link) ∙ has_link-end y.outward.primary (record { link = d.link; side = B; other = a })
          refl

  -- an inner side that has a router
  inner_case : (k : Key) → (k ≡ p) ⊎ (side_router h (inner_link k) B ≡ side_router g (inner_link k) B)
  inner_case k = go (same_link (inner_link k) (inner_link p)) refl
    where
      go : (c : Bool) → same_link (inner_link k) (inner_link p) ≡ c →
          (k ≡ p) ⊎ (side_router h (inner_link k) B ≡ side_router g (inner_link k) B)
      go true c = inl (inner_one k p (same_link-tells (inner_link k) (inner_link p) c))
      go false c = inr (router_same law is t (inner_link k) B (grind (arith, c)))

  pub stands-made : Stands v h
  stands-made = record {
    central = λ i s x l c nl e. passes_kept law is t (Some x) (has_primary (Central i) s)
        (law.stands.central i s x l c (sym (left_same law is t (Central i) s) ∙ nl) (sym (central_kept i s) ∙ e));
    awaited = law.stands.awaited;
    awaited_stage = law.stands.awaited_stage;
    awaited_side = λ i s o l none born. law.stands.awaited_side i s o l none born ∙ ap opposite (sym (side_same law is t o));
    proxy = λ k e by nl. ap (λ z. key_passes v z (has_inward_primary (inner_link k) A)) (proxy_kept k) ∙ passes_kept law is t
        (side_router g (inner_link k) A) (has_inward_primary (inner_link k) A)
        (law.stands.proxy k (sym (recorded_same law is t (inner_link k)) ∙ e) (sym (by_same law is t k) ∙ by)
        (sym (left_same law is t (inner_link k) A) ∙ nl));
    inner = λ k x e by nl f. elim (inner_case k) [
      | inl o ↦ let key : q ≡ x = same_some (sym (router_new law is t) ∙ ap (λ k. side_router h (inner_link k) B) (sym o) ∙ f) in
          subst (λ k. key_passes v (Some x) (has_primary (inner_link k) B) ≡ true) (sym o)
          (subst (λ x. key_passes v (Some x) (has_primary (inner_link p) B) ≡ true) key has_new)
      | inr o ↦ passes_kept law is t (Some x) (has_primary (inner_link k) B)
          (law.stands.inner k x (sym (recorded_same law is t (inner_link k)) ∙ e) (sym (by_same law is t k) ∙ by)
          (sym (left_same law is t (inner_link k) B) ∙ nl) (sym o ∙ f))
    ];
    by_begun = λ k o e. law.stands.by_begun k o (sym (by_same law is t k) ∙ e);
    by_inner = λ k o e. law.stands.by_inner k o (sym (by_same law is t k) ∙ e);
    left_recorded = λ l s n. recorded_same law is t l ∙ law.stands.left_recorded l s (sym (left_same law is t l s) ∙ n);
    left_known = λ l s n. known_left l s (side_router g l s) refl (law.stands.left_known l s (sym (left_same law is t l s) ∙ n));
    left_gone = λ l s n. let o : is_left g l s ≡ true = sym (left_same law is t l s) ∙ n in
        gone_left l s (law.stands.left_recorded l s o) (side_router g l s) refl (law.stands.left_known l s o) (law.stands.left_gone l s o);
    left_live = λ l s n. bypass_same law is t l ∙ law.stands.left_live l s (sym (left_same law is t l s) ∙ n);
  }
    where
      known_left : (l : LinkId) (s : Side) (o : Option Key) → side_router g l s ≡ o → is_some (side_router g l s) ≡ true →
          is_some (side_router h l s) ≡ true
      known_left l s None e k = absurd (grind (arith, e, k))
      known_left l s (Some x) e k = ap is_some (router_kept law is t l s x e)

      gone_left : (l : LinkId) (s : Side) → is_recorded w g l ≡ true → (o : Option Key) → side_router g l s ≡ o →
          is_some (side_router g l s) ≡ true → key_passes w (side_router g l s) (λ z. true) ≡ false →
          key_passes v (side_router h l s) (λ z. true) ≡ false
      gone_left l s rec None e k f = absurd (grind (arith, e, k))
      gone_left l s rec (Some x) e k f = ap (λ o. key_passes v o (λ z. true)) (router_kept law is t l s x e) ∙
          passes_same law is t l s (λ z. true) rec (Some x) e ∙ ap (λ o. key_passes w o (λ z. true)) (sym e) ∙ f

  pub words-made : Words v h
  words-made = record {
    each = λ i. word-kept {w = w}
        (record {
          word = t.word i;
          linked = refl;
          begun = refl;
          early = λ l. l;
          side = λ b. side_same law is t i;
          inner = λ b. node_same law is t (inner_link (g.bypass i).inner) B;
          left = left_same law is t (Central i);
          marked = λ s l b n. ap (λ o. key_passes v o (λ x. x.marked)) (central_kept i s) ∙
              passes_same law is t (Central i) s (λ x. x.marked) (is_recorded-central w g i ∙ l) (side_router g (Central i) s) refl;
          holds = λ s l b n. ap (λ o. key_passes v o (λ x. x.holds)) (central_kept i s) ∙
              passes_same law is t (Central i) s (λ x. x.holds) (is_recorded-central w g i ∙ l) (side_router g (Central i) s) refl;
        })
        (law.words.each i);
    source = sourced-by w v (λ x z at h. elim (was_there law is t x z at) [
      | inl o ↦ had-itself w x z o.0
      | inr o ↦ absurd (grind (arith, ap (λ (u : Router). u.holds) o.0, h))
    ]) (λ x z e i at p l. ap (λ (u : Word). u.source) (t.word i)) law.words.source;
  }

  pub spares-made : Spares v h
  spares-made = record {
    spare = λ x z i at e.
        elim (was_there law is t x z at) [ inl o ↦ law.spares.spare x z i o.0 e | inr o ↦ absurd (grind (arith, o.0, e)) ];
    spare_back = λ x i e. spare_kept x i (router_at w x) refl (law.spares.spare_back x i e);
    opening = λ n i e. law.spares.opening n i (sym (t.opening n) ∙ e);
    opening_back = λ n i e. t.opening n ∙ law.spares.opening_back n i e;
    fresh = law.spares.fresh;
    fresh_back = law.spares.fresh_back;
  }
    where
      spare_kept : (x : Key) (i : ℕ) (o : Option Router) → router_at w x ≡ o → spare_of (router_at w x) ≡ Some i →
          spare_of (router_at v x) ≡ Some i
      spare_kept x i None e f = absurd (no_spare i (ap spare_of (sym e) ∙ f))
      spare_kept x i (Some z) e f = ap spare_of (stood law is t x z e ∙ sym e) ∙ f

  inner_kept : (o : ℕ) → 2 ≤ (g.bypass o).stage → side_router h (inner_of g o) B ≡ side_router g (inner_of g o) B
  inner_kept o e = elim (inner_case (g.bypass o).inner) [
    | inl f ↦ absurd
        (grind (arith, (law.bypasses o).inner_known e, ap (λ k. side_router g (inner_link k) B) f ∙ unmade law is t))
    | inr f ↦ f
  ]

  pub bypasses-made : BypassRecords v h
  bypasses-made o = bypass-kept {w = w}
      (record {
        same = same_bypass (g.bypass o);
        old = λ e. record {
          linked = λ h. h;
          recorded = λ h. recorded_same law is t (inner_of g o) ∙ h;
          by = by_same law is t (g.bypass o).inner;
          inner_pair = peripheral_same law is t (λ z. z.end.pair) (λ z o. refl) (g.bypass o).inner;
          pair = refl;
          side = side_same law is t o;
          router = central_kept o;
          node = node_same law is t (Central o);
          inner_router = proxy_kept (g.bypass o).inner;
        };
        fresh = λ e h. h;
        late = λ l. record {
          linked = λ h. h;
          born = refl;
          pair = refl;
          router = central_kept (g.bypass o).fresh;
          node = node_same law is t (fresh_of g o);
          inner_router = inner_kept o l;
          inner_node = node_same law is t (inner_of g o) B;
        };
        born = λ i l e. (l, e);
      })
      (law.bypasses o)

  across_passes : (o : ℕ) (test : Side → Router → Bool) → key_passes w (side_router g (Central o) (across_side g o))
      (test (across_side g o)) ≡ true → key_passes v (side_router h (Central o) (across_side h o)) (test (across_side h o)) ≡ true
  across_passes o test c = ap (λ s. key_passes v (side_router h (Central o) (opposite s)) (test (opposite s))) (side_same law is t o) ∙ ap
      (λ z. key_passes v z (test (across_side g o))) (central_kept o (across_side g o)) ∙ passes_kept law is t
      (side_router g (Central o) (across_side g o)) (test (across_side g o)) c

  -- a proxy that is bypassed isn't the new terminal
  pub proxy_was : (o : ℕ) (z : Router) → is_begun (g.bypass o) ≡ true → router_at v (g.bypass o).proxy ≡ Some z →
      router_at w (g.bypass o).proxy ≡ Some z
  proxy_was o z e at = elim (was_there law is t (g.bypass o).proxy z at) [
    | inl n ↦ n.0
    | inr n ↦ absurd (grind (
      arith,
      side_new law is t (inner_of g o) A (g.bypass o).proxy ((law.bypasses o).inner e) ((law.bypasses o).proxy_inner e),
      n.1,
      same_key-itself q,
    ))
  ]

  pub stages-made : Stages v h
  stages-made o = record {
    proxy_old = λ e s. ap (λ s. key_passes v (Some (g.bypass o).proxy) (has_decaying (Central o) s)) (side_same law is t o) ∙
        passes_kept law is t
        (Some (g.bypass o).proxy) (has_decaying (Central o) (proxy_side g o)) ((law.stages o).proxy_old e s);
    proxy_inner = λ e s. passes_kept law is t (Some (g.bypass o).proxy) (has_inward_decaying (inner_of g o) A)
        ((law.stages o).proxy_inner e s);
    proxy_begun = λ z e at. (law.stages o).proxy_begun z e (proxy_was o z e at);
    proxy_end = λ z e at. (law.stages o).proxy_end z e (proxy_was o z e at) ∙ sym (end_same law is t (inner_of g o) A);
    across_old = λ e s. across_passes o (λ s. has_primary (Central o) s) ((law.stages o).across_old e s);
    across_marked = λ e s. across_passes o (λ s x. x.marked) ((law.stages o).across_marked e s);
    across_free = λ e s. across_passes o (λ s x. not x.holds) ((law.stages o).across_free e s);
    across_fresh = λ e s. ap (λ s. key_passes v (side_router h (fresh_of g o) (opposite s)) (has_primary (fresh_of g o) (opposite s)))
        (side_same law is t o) ∙ ap (λ z. key_passes v z (has_primary (fresh_of g o) (across_side g o)))
        (central_kept (g.bypass o).fresh (across_side g o)) ∙
        passes_kept law is t (side_router g (fresh_of g o) (across_side g o)) (has_primary (fresh_of g o) (across_side g o))
        ((law.stages o).across_fresh e s);
    inner_primary = λ x e f. elim (inner_case (g.bypass o).inner) [
      | inl c ↦ let key : q ≡ x = same_some (sym (router_new law is t) ∙ ap (λ k. side_router h (inner_link k) B) (sym c) ∙ f) in
          subst (λ k. key_passes v (Some x) (has_primary (inner_link k) B) ≡ true) (sym c)
          (subst (λ x. key_passes v (Some x) (has_primary (inner_link p) B) ≡ true) key has_new)
      | inr c ↦ passes_kept law is t (Some x) (has_primary (inner_of g o) B) ((law.stages o).inner_primary x e (sym c ∙ f))
    ];
    inner_decaying = λ e s. ap (λ z. key_passes v z (has_decaying (inner_of g o) B)) (inner_kept o e) ∙ passes_kept law is t
        (side_router g (inner_of g o) B) (has_decaying (inner_of g o) B) ((law.stages o).inner_decaying e s);
  }

  nowhere_moved : is_nowhere (g.terminal d.end) ≡ false
  nowhere_moved = let m = moving_known (g.terminal d.end) (inner_link p) (waits law is t) in ap is_nowhere m.1 ∙ is_nowhere-moving m.0

  pub nowhere_same : (e : End) → is_nowhere (h.terminal e) ≡ is_nowhere (g.terminal e)
  nowhere_same e = go (same_end e d.end) refl
    where
      go : (c : Bool) → same_end e d.end ≡ c → is_nowhere (h.terminal e) ≡ is_nowhere (g.terminal e)
      go true c = let s : e ≡ d.end = same_end-tells e d.end c in
          ap is_nowhere (grind (arith, c)) ∙ is_nowhere-at q ∙ sym (ap (λ z. is_nowhere (g.terminal z)) s ∙ nowhere_moved)
      go false c = ap is_nowhere (grind (arith, c))

  -- an end whose terminal stands isn't the one that is made
  pub not_moving : (e : End) (x : Key) → g.terminal e ≡ At x → same_end e d.end ≡ false
  not_moving e x f = go (same_end e d.end) refl
    where
      go : (c : Bool) → same_end e d.end ≡ c → same_end e d.end ≡ false
      go false c = c
      go true c = let s : e ≡ d.end = same_end-tells e d.end c in
          absurd (at_waits x (inner_link p) (ap moving_link (sym f ∙ ap g.terminal s) ∙ waits law is t))

  pub terminals-made : Terminals v h
  terminals-made = record {
    each = λ x z at. record {
      terminal = λ e. elim (was_there law is t x z at) [
        | inl o ↦ let f = (law.terminals.each x z o.0).terminal e in grind (arith, not_moving z.end x f, f)
        | inr o ↦ ap h.terminal (ap (λ z. z.end) o.0) ∙ grind (arith, same_end-itself d.end, o.1)
      ];
      opened = nowhere_same z.end ∙ elim (was_there law is t x z at)
          [ inl o ↦ (law.terminals.each x z o.0).opened | inr o ↦ ap (λ z. is_nowhere (g.terminal z.end)) o.0 ∙ nowhere_moved ];
    };
    stands = λ e x f. made_stands e x f (same_end e d.end) refl;
    link_opened = λ link s e. nowhere_same (side_end h link s) ∙ ap (λ z. is_nowhere (g.terminal z)) (end_same law is t link s) ∙
        law.terminals.link_opened link s (sym (recorded_same law is t link) ∙ e);
    both = λ e. nowhere_same (opposite_end e) ∙ law.terminals.both e ∙ sym (nowhere_same e);
    unopened = λ e f. nowhere_same e ∙ law.terminals.unopened e f;
    other_pair = λ e f n. nowhere_same e ∙ law.terminals.other_pair e f n;
  }
    where
      made_stands : (e : End) (x : Key) → h.terminal e ≡ At x → (c : Bool) → same_end e d.end ≡ c →
          key_passes v (Some x) (λ r. is_terminal r && same_end r.end e) ≡ true
      made_stands e x f false c = passes_kept law is t (Some x) (λ r. is_terminal r && same_end r.end e)
          (law.terminals.stands e x (grind (arith, f, c)))
      made_stands e x f true c =
          let s : e ≡ d.end = same_end-tells e d.end c in let k : x ≡ q =
          at_one x q (sym f ∙ ap h.terminal s ∙ grind (arith, same_end-itself d.end)) in
          grind (arith, standing_rules, t.router x, k, same_key-itself q, s, same_end-itself d.end)
